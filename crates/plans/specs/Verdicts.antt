-- The verdicts on a lot, and what each accepts: paper 01, "Credit lots" and "Level lots". Assumes nothing.
use Rattle.std.specs.Prelude.{ℕ, ◌-◌, cond, eqb}

-- no wrong detection in the sample
abbrev pub lot_accepted : ℕ
lot_accepted = 1

-- not accepted, and every detection of it heard
abbrev pub lot_heard : ℕ
lot_heard = 2

-- not accepted: a credit lot returned whole, a level lot withheld
abbrev pub lot_withheld : ℕ
lot_withheld = 3

-- paper 01, "Level lots": d wrong in the sample
unfoldable pub level_verdict : ℕ → ℕ
level_verdict d = cond (eqb d 0) lot_accepted lot_withheld

-- how many of a lot's N detections are accepted, where D were found wrong in all that was heard
unfoldable pub accepted_of : ℕ → ℕ → ℕ → ℕ
accepted_of verdict N D = cond (eqb verdict lot_accepted) N (cond (eqb verdict lot_heard) (N - D) 0)
