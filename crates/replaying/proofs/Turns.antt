-- One turn of a replay: `Ready` of the records that are left is what its loop keeps. Assumes nothing.
use Prim.Native.Nat.{ℕ, zero, suc, ◌+◌, ◌*◌, ◌-◌, ◌≤◌, ◌<◌}
use mathlib.Core.Path.{◌≡◌, refl, sym, ◌∙◌}
use mathlib.Core.Bool.{Bool, true, false, not}
use mathlib.Core.List.{List}
use native.Mathlib.Nat.{add-zero, add-suc}
use native.Mathlib.Numerals.{add-one}
use native.Mathlib.Omega.{arith}
use lib.Dec.{T}
use lib.ListN.{length}
use borrow.Author.Tests.{not-true, not-false}
use Rattle.little.specs.Little.{part, AreBytes}
use Rattle.model.specs.declared.Plan.{Plan}
use Rattle.model.specs.declared.Figures.{Figures}
use Rattle.model.specs.Sizes.{record_length, header_length}
use Rattle.model.specs.Figuring.{started, figures_of}
use Rattle.model.specs.Calls.{admissible}
use Rattle.model.specs.Records.{record_in}
use Rattle.model.specs.Area.{entries_in}
use Rattle.records.specs.Records.{record_at}
use Rattle.records.proofs.Laws.{record_at_lem}
use Rattle.std.specs.Prelude.{Ok, Err}
use Rattle.replaying.specs.Replaying.{entered, records_in, figures_to, stands, stand_to, Ready, entered_if, replayed_if, replayed}
use Rattle.replaying.proofs.Parts.{figures_next, stand_fails, stand_admissible}
use Rattle.replaying.proofs.Tried.{entered_anywhere}

-- before the first record
pub stand_none : (p : Plan) (area : List ℕ) → stand_to p area 0 ≡ true
unfolding stand_to
stand_none p area = refl

pub figures_none : (p : Plan) (area : List ℕ) → figures_to p area 0 ≡ started p
unfolding figures_to entries_in figures_of
figures_none p area = refl

-- ---- a replay's figures, where the records stand and where one does not
module _ (p : Plan) (area : List ℕ) where
  replayed_stood : (i : ℕ) → stand_to p area i ≡ true → replayed p area i ≡ Ok (figures_to p area i)
  unfolding replayed
  replayed_stood zero e = rw (figures_none p area)
  replayed_stood (suc i) e = rw e

  -- the same of what a replay gave: all stand, or one does not
  pub all_stand : (i : ℕ) (f : Figures) → Ok f ≡ replayed p area i → stand_to p area i ≡ true
  unfolding replayed
  all_stand zero f gives = stand_none p area
  all_stand (suc i) f gives = go (stand_to p area (suc i)) _ _ gives
    where
      go : (b : Bool) (after before : Figures) → Ok f ≡ replayed_if b after before → b ≡ true
      go true after before e = refl
      go false after before e = cc

  pub one_fails : (i : ℕ) (f : Figures) → Err f ≡ replayed p area i → stand_to p area i ≡ false
  unfolding replayed
  one_fails zero f gives = cc
  one_fails (suc i) f gives = go (stand_to p area (suc i)) _ _ gives
    where
      go : (b : Bool) (after before : Figures) → Err f ≡ replayed_if b after before → b ≡ false
      go true after before e = cc
      go false after before e = refl

  pub figures_after : (i : ℕ) (f : Figures) → Ok f ≡ replayed p area i → f ≡ figures_to p area i
  figures_after i f gives = let same = gives ∙ replayed_stood i (all_stand i f gives) in cc

  -- the first that does not stand, and the records behind it
  replayed_fails : (i k : ℕ) → stand_to p area i ≡ true → stand_to p area (suc i) ≡ false → replayed p area (suc i + k) ≡ Err (figures_to p area i)
  unfolding replayed
  replayed_fails i zero e n = rw (add-zero, n, replayed_stood i e)
  replayed_fails i (suc k) e n =
      rw (add-suc, stand_fails p area (suc i) (suc (suc i + k)) (omega arith) n, replayed_fails i k e n)

-- what two tests give is the same: so are they, and the figures where they hold
same_test : (a b : Bool) (x y : Figures) → entered_if a x ≡ entered_if b y → a ≡ b
same_test true true x y e = refl
same_test true false x y e = cc
same_test false true x y e = cc
same_test false false x y e = refl

same_figures : (a b : Bool) (x y : Figures) → entered_if a x ≡ entered_if b y → a ≡ true → x ≡ y
same_figures true true x y e s = cc
same_figures true false x y e s = cc
same_figures false b x y e s = cc

module _ (p : Plan) (area : List ℕ) (f : Figures) (i to : ℕ) (ready : Ready p area f i to) where
  -- calls could have left the records before
  pub ready_admissible : AreBytes area → T (admissible p (entries_in p (records_in area) i))
  ready_admissible bytes = stand_admissible p area i ready.whole bytes (omega arith) ready.stood

  pub turn_inside : i < to → header_length + record_length * i + record_length ≤ length area
  turn_inside more = omega (arith, ready.whole)

  -- the record of the turn, read at its offset: whether it stood, and the figures after it
  module _ (more : i < to) (stood : Bool) (g : Figures)
      (read : entered_if stood g ≡ entered p f 0 (record_in (part (header_length + record_length * i) record_length area))) where
    made : entered_if stood g ≡ entered p f i (record_in (record_at area i))
    made = read ∙ rw (record_at_lem area i (omega (arith, ready.room))) (sym (entered_anywhere p f _ i (omega (arith, ready.room))))

    next_stands : stood ≡ stand_to p area (suc i)
    unfolding entered stand_to
    next_stands = same_test stood (stands p f i (record_in (record_at area i))) _ _ made ∙ rw (ready.stood, ← ready.brought)

    next_figures : stood ≡ true → g ≡ figures_to p area (suc i)
    unfolding entered
    next_figures s =
        same_figures stood (stands p f i (record_in (record_at area i))) g _ made s ∙ rw (figures_next p area i, ← ready.brought)

    -- the record stands: on to the next
    pub turn_taken : not stood ≡ false → Ready p area g (i + 1) to
    turn_taken n =
        let s = not-false stood n in
        record {
          whole = ready.whole;
          valid = ready.valid;
          in_order = omega arith;
          room = ready.room;
          stood = rw (add-one i) (sym next_stands ∙ s);
          brought = rw (add-one i) (next_figures s);
        }

    -- it does not: nor do all, and the figures are those before it
    pub turn_failed : not stood ≡ true → (stood ≡ false → g ≡ f) → (h : Figures) → h ≡ g → Err h ≡ replayed p area to
    turn_failed n kept h same =
        let count : to ≡ suc i + (to - suc i) = omega arith in
        let stays = replayed_fails p area i (to - suc i) ready.stood (sym next_stands ∙ not-true stood n) in
        rw (same ∙ kept (not-true stood n) ∙ ready.brought, count) (sym stays)

  -- none is left
  pub turns_over : to ≤ i → (g : Figures) → g ≡ f → Ok g ≡ replayed p area to
  turns_over over g same =
      let all : i ≡ to = omega arith in
      rw (same ∙ ready.brought, ← all) (sym (replayed_stood p area i ready.stood))
