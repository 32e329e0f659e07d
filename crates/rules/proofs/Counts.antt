-- A lot's counts: what refusal 13 leaves. Assumes nothing.
use Prim.Native.Nat.{ℕ, ◌+◌, ◌-◌, ◌≤◌}
use mathlib.Core.Path.{◌≡◌, refl, sym, ◌∙◌}
use mathlib.Core.Bool.{Bool, true, false, not, ◌||◌}
use native.Mathlib.Omega.{arith}
use lib.Dec.{eqb, leb}
use borrow.Author.Tests.{eqb-true, leb-true}
use Rattle.plans.specs.Limits.{largest_lot, largest_credit, within}
use Rattle.plans.specs.Credit.{credit_verdict}
use Rattle.plans.specs.Verdicts.{lot_heard, lot_withheld, level_verdict}
use Rattle.plans.specs.Tables.{level_sample}
use Rattle.plans.proofs.Booleans.{either}
use Rattle.plans.proofs.RoundedUp.{credit_sample_at_most}
use Rattle.model.specs.declared.Plan.{Plan}
use Rattle.model.specs.declared.Figures.{Figures}
use Rattle.model.specs.FigureBounds.{FiguresWithin}
use Rattle.model.specs.Sizes.{most_records}
use Rattle.model.specs.Stations.{is_credit, has_option}
use Rattle.model.specs.Figuring.{sample_asked, verdict_on}
use Rattle.model.specs.Calls.{counts_agree, size_in_range}
use Rattle.model.proofs.Booleans.{both_true, within_of, never_both}
use Rattle.model.proofs.Allowed.{AllowedLot}
use Rattle.model.proofs.FigureBounds.{lot_size_range}

-- what a sample asks for: the size of a lot that passed refusal 11, and a credit that lots can have earned
pub size_passed : (p : Plan) (N : ℕ) (r : Bool) → r ≡ size_in_range p N → r ≡ true → (1 ≤ N) × (N ≤ largest_lot)
size_passed p N r e passed = lot_size_range p N (sym e ∙ passed)

pub credit_within : (f : Figures) (count : ℕ) → FiguresWithin count f → count ≤ most_records → f.credit.0 ≤ largest_credit
credit_within f count within few = omega arith

-- no sample is larger than its lot
pub sample_at_most : (p : Plan) (f : Figures) (N : ℕ) → sample_asked p f N ≤ N
unfolding sample_asked level_sample
sample_at_most p f N =
    either (λ (n : ℕ). n ≤ N) (is_credit p) (credit_sample_at_most f.credit.0 p.ceiling N p.a) (omega arith)

-- where the first test holds, so does the second
implied : (a b : Bool) → not a || b ≡ true → a ≡ true → b ≡ true
implied true b e h = e
implied false b e h = absurd (never_both false h refl)

-- what counts that agree say
record AgreedCounts (verdict N n d D : ℕ) : Type 0 where
  in_sample : d ≤ n
  none : eqb d 0 ≡ true → D ≡ 0
  heard : eqb verdict lot_heard ≡ true → D ≤ N - n + d
  withheld : eqb verdict lot_withheld ≡ true → D ≡ d

agreed_counts : (verdict N n d D : ℕ) → counts_agree verdict N n d D ≡ true → AgreedCounts verdict N n d D
unfolding counts_agree
agreed_counts verdict N n d D e =
    let three = both_true _ (not (eqb verdict lot_withheld) || eqb D d) e in
    let two = both_true _ (not (eqb verdict lot_heard) || within d (N - n + d) D) three.0 in
    let one = both_true (leb d n) (not (eqb d 0) || eqb D 0) two.0 in
    record {
      in_sample = leb-true d n one.0;
      none = λ h. eqb-true D 0 (implied _ _ one.1 h);
      heard = λ h. (within_of d (N - n + d) D (implied _ _ two.1 h)).1;
      withheld = λ h. eqb-true D d (implied _ _ three.1 h);
    }

-- no more is wrong in all that was heard than the lot holds
pub all_at_most : (p : Plan) (f : Figures) (count label N n d D : ℕ) → AllowedLot p f count label N n d D → D ≤ N
unfolding verdict_on credit_verdict level_verdict
all_at_most p f count label N n d D allowed = go (eqb d 0) refl
  where
    Fits : ℕ → Type 0
    Fits verdict = counts_agree verdict N n d D ≡ true → D ≤ N

    sampled : n ≤ N
    sampled = omega (arith, allowed.sample, sample_at_most p f N)

    heard : Fits lot_heard
    heard e = omega (arith, sampled, (agreed_counts _ N n d D e).in_sample, (agreed_counts _ N n d D e).heard refl)

    withheld : Fits lot_withheld
    withheld e = omega (arith, sampled, (agreed_counts _ N n d D e).in_sample, (agreed_counts _ N n d D e).withheld refl)

    go : (none : Bool) → eqb d 0 ≡ none → D ≤ N
    go true e = omega (arith, (agreed_counts _ N n d D allowed.counts).none e)
    go false e =
        either Fits (is_credit p) (either Fits (eqb f.credit.0 0 || has_option p) heard withheld) withheld
        (rw (verdict_on, credit_verdict, level_verdict, e) at allowed.counts)
