-- The number of each refusal; the refusals of paper 01, "Calls", tested up to the last of a call's list, none of which looks at a
-- recording; and tests of it that calls and replays share. Assumes nothing.
use Rattle.std.specs.Prelude.{ℕ, ◌≡◌, Bool, not, cond, Result, Ok, Err, ◌&&◌, List, [], ◌∷◌, eqb, leb}
use Rattle.plans.specs.Limits.{largest_lot, longest_stop, within}
use Rattle.model.specs.declared.Plan.{Plan}
use Rattle.model.specs.declared.Entry.{Entry}
use Rattle.model.specs.declared.Entry.TheVariants.{Lot, Run, Block, Stop}
use Rattle.model.specs.declared.Figures.{Figures}
use Rattle.model.specs.declared.Answer.{Answer}
use Rattle.model.specs.declared.Recording.{Recording}
use Rattle.model.specs.Calls.{Refusal, refuse, first_refusal, refused, same_label, rule_refusals}
use Rattle.rules.specs.declared.refusing.Refusal.{Refusal as Refused}
use Rattle.rules.specs.declared.refusing.Refusal.TheVariants.{
  StoreLength,
  Stream,
  Unsound,
  AlreadyOpen,
  InvalidPlan,
  Unopened,
  OtherPlan,
  Discontinued,
  Full,
  SameLabel,
  Size,
  Sample,
  Counts,
  Phase,
  Range,
  NothingStands,
  NoRecording,
}

-- paper 01's number of each refusal, and of the last paper 02's
abbrev pub number_of : Refused → ℕ
number_of StoreLength = 1
number_of Stream = 2
number_of Unsound = 3
number_of AlreadyOpen = 4
number_of InvalidPlan = 5
number_of Unopened = 6
number_of OtherPlan = 7
number_of Discontinued = 8
number_of Full = 9
number_of SameLabel = 10
number_of Size = 11
number_of Sample = 12
number_of Counts = 13
number_of Phase = 14
number_of Range = 15
number_of NothingStands = 16
number_of NoRecording = 17

-- the refusal number of what a call gives, 0 where it gives no refusal
abbrev pub refusal_number : {A : Type 0} → Result A Refused → ℕ
refusal_number (Ok a) = 0
refusal_number (Err r) = number_of r

-- the answer of a call that gives an answer or a refusal
abbrev pub answered : Result Answer Refused → Answer
answered (Ok a) = a
answered (Err r) = refused (number_of r)

-- a list of refusals without the last
unfoldable pub earlier : List Refusal → List Refusal
earlier [] = []
earlier (r ∷ []) = []
earlier (r ∷ s ∷ rs) = r ∷ earlier (s ∷ rs)

-- r is the first that applies of an entry's earlier refusals, 0 where none does
abbrev pub UpToLast : Plan → Figures → ℕ → Entry → ℕ → Type 0
UpToLast p f count e r = r ≡ first_refusal (earlier (rule_refusals p f count e))

-- the same of a lot, of a run, of a block, and of a stop, whatever it is that only the last looks at, and whatever the recording: a lot's
-- counts; the figures; the plan and the stop itself
unfoldable pub LotUpToLast : Plan → Figures → ℕ → ℕ → ℕ → ℕ → ℕ → Type 0
LotUpToLast p f count label N n r = (d D : ℕ) (rec : Recording) → UpToLast p f count (Lot label N n d D rec) r

unfoldable pub RunUpToLast : Plan → ℕ → ℕ → ℕ → ℕ → Type 0
RunUpToLast p count h w r = (f : Figures) (rec : Recording) → UpToLast p f count (Run h w rec) r

unfoldable pub BlockUpToLast : Plan → ℕ → ℕ → ℕ → ℕ → Type 0
BlockUpToLast p count q w r = (f : Figures) (rec : Recording) → UpToLast p f count (Block q w rec) r

unfoldable pub StopUpToLast : Figures → ℕ → ℕ → Type 0
StopUpToLast f count r = (p : Plan) (why days : ℕ) → UpToLast p f count (Stop why days) r

-- what comes behind them of a call that brings a recording: 17 (paper 02, card 1)
unfoldable pub recording_refusals : Recording → List Refusal
recording_refusals rec = refuse 17 (eqb rec.number 0) ∷ []

-- what 10 and 11 leave of a lot: another label than the newest lot's, and a size from the least
unfoldable pub may_follow : ℕ → ℕ → ℕ → ℕ → Bool
may_follow least above label N = not (same_label above label) && within least largest_lot N

-- what 15 leaves of a stop: with another set-up no days, else at most 255
unfoldable pub is_stop : ℕ → ℕ → Bool
is_stop why days = cond (eqb why 2) (eqb days 0) (eqb why 1 && leb days longest_stop)
