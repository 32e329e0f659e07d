-- What an entry gives wherever a place is free, and which entry a record holds, by its head. Assumes nothing.
use Prim.Native.Nat.{ℕ, ◌≤◌, ◌<◌}
use mathlib.Core.Path.{◌≡◌, refl, sym, ap, ◌∙◌}
use mathlib.Core.Bool.{Bool, true, false, cond, not, ◌&&◌, ◌||◌, or-true, and-true}
use native.Mathlib.Omega.{arith}
use lib.Dec.{eqb, ltb, leb}
use borrow.Author.Tests.{eqb-true, eqb-false, eq-eqb, ne_eqb, lt-leb, leb-true, leb-false, lt-ltb, le-ltb}
use Rattle.plans.specs.Limits.{longest_stop, within}
use Rattle.model.specs.declared.Plan.{Plan}
use Rattle.model.specs.declared.Entry.{Entry}
use Rattle.model.specs.declared.Entry.TheVariants.{Lot, Run, Block, Stop}
use Rattle.model.specs.declared.Figures.{Figures}
use Rattle.model.specs.declared.Record.{Record}
use Rattle.model.specs.declared.Recording.{Recording}
use Rattle.model.specs.Sizes.{most_records}
use Rattle.model.specs.Stations.{is_continuous}
use Rattle.model.specs.Figuring.{sample_asked, verdict_on, credit_step, level_step, continuous_step, accepted_by, is_lot, label_of, stepped}
use Rattle.model.specs.Records.{no_recording, lot_kind, run_kind, block_kind, stop_kind, entry_of}
use Rattle.model.specs.Calls.{first_refusal, rule_refusals, is_discontinued, is_full, same_label, size_in_range, counts_agree, allows, brings_recording, brought_by, lacks_recording, accepts}
use Rattle.model.proofs.Allowed.{allowed_lot, allowed_run, allowed_block, allowed_stop, accepted_parts}
use Rattle.model.proofs.Booleans.{both_true, never_both}
use Rattle.rules.specs.Refusing.{is_stop}
use Rattle.std.specs.Prelude.{Option, Some, None}
use Rattle.replaying.specs.Replaying.{one_number, unrecorded, well_formed, head_of, flagged, holds_stop, why_of, stands, entered_if, entered, tried, asked_lot, Tells}
use Rattle.replaying.proofs.Heads.{head_is, StopForm, stop_held, stop_form}

-- ---- entries

-- where a place is free, it does not matter which
pub allows_anywhere : (p : Plan) (f : Figures) (i : ℕ) (e : Entry) → i < most_records → allows p f i e ≡ allows p f 0 e
unfolding allows first_refusal rule_refusals is_full
allows_anywhere p f i (Lot label N n d D rec) free = rw (lt-leb most_records i free)
allows_anywhere p f i (Run h w rec) free = rw (lt-leb most_records i free)
allows_anywhere p f i (Block q w rec) free = rw (lt-leb most_records i free)
allows_anywhere p f i (Stop why days) free = rw (lt-leb most_records i free)

-- an entry that is accepted is not refused
pub allowed_zero : (p : Plan) (f : Figures) (i : ℕ) (e : Entry) → allows p f i e ≡ true → first_refusal (rule_refusals p f i e) ≡ 0
unfolding allows
allowed_zero p f i e a = eqb-true (first_refusal (rule_refusals p f i e)) 0 a

-- the refusals of a lot by its label, size and counts
none_given : (same size counts : Bool) → eqb (cond same 10 (cond (not size) 11 (cond (not counts) 13 0))) 0 ≡ not same && size && counts
none_given true size counts = refl
none_given false false counts = refl
none_given false true false = refl
none_given false true true = refl

module _ (p : Plan) (f : Figures) (running : is_discontinued f ≡ false) where
  -- a lot is accepted by its label, its size and its counts
  pub lot_tried : is_continuous p ≡ false → (label N d D : ℕ) → tried p f (asked_lot p f label N d D)
      ≡ entered_if (not (same_label f.above label) && size_in_range p N && counts_agree (verdict_on p f d) N (sample_asked p f N) d D)
      (stepped p (asked_lot p f label N d D) f)
  unfolding tried allows first_refusal rule_refusals is_full asked_lot
  lot_tried lots label N d D = rw (lots, running, eq-eqb (sample_asked p f N) (sample_asked p f N) refl)
      (rw (none_given (same_label f.above label) (size_in_range p N) (counts_agree (verdict_on p f d) N (sample_asked p f N) d D)))

  -- and a stop, on a stream of any plan, by its why and days
  pub stop_allows : (why days : ℕ) → allows p f 0 (Stop why days) ≡ is_stop why days
  unfolding allows first_refusal rule_refusals is_full is_stop within
  stop_allows why days = rw running (go (eqb why 2) (eqb why 1) refl refl)
    where
      pause : (b : Bool) → leb days longest_stop ≡ b → eqb (cond (ltb longest_stop days || false) 15 0) 0 ≡ b
      pause true e = rw (le-ltb longest_stop days (leb-true days longest_stop e))
      pause false e = rw (lt-ltb longest_stop days (leb-false days longest_stop e))

      change : (b : Bool) → eqb days 0 ≡ b → eqb (cond (ltb longest_stop days || ltb 0 days) 15 0) 0 ≡ b
      change true e = rw (eqb-true days 0 e)
      change false e =
          let some : days ≡ 0 → ⊥ = eqb-false days 0 e in
          rw (lt-ltb 0 days (omega arith), or-true (ltb longest_stop days))

      other : (why ≡ 1 → ⊥) → (why ≡ 2 → ⊥) → within 1 2 why ≡ false
      other one two = or_less (leb 1 why) refl
        where
          or_less : (b : Bool) → leb 1 why ≡ b → b && leb why 2 ≡ false
          or_less true e = lt-leb why 2 (omega (arith, leb-true 1 why e))
          or_less false e = refl

      go : (two one : Bool) → eqb why 2 ≡ two → eqb why 1 ≡ one
          → eqb (cond (not (within 1 2 why) || ltb longest_stop days || (two && ltb 0 days)) 15 0) 0 ≡ cond two (eqb days 0) (one && leb days longest_stop)
      go true one a b = let k = eqb-true why 2 a in rw k (change (eqb days 0) refl)
      go false true a b = let k = eqb-true why 1 b in rw k (pause (leb days longest_stop) refl)
      go false false a b = rw (other (eqb-false why 1 b) (eqb-false why 2 a))

  pub stop_tried : (why days : ℕ) → tried p f (Stop why days) ≡ entered_if (is_stop why days) (stepped p (Stop why days) f)
  unfolding tried
  stop_tried why days = rw (stop_allows why days)

-- no rule looks at a recording
module _ (p : Plan) (f : Figures) (rec : Recording) where
  pub lot_unrecorded : (label N n d D : ℕ) → tried p f (Lot label N n d D rec) ≡ tried p f (Lot label N n d D no_recording)
  unfolding tried allows rule_refusals stepped credit_step level_step continuous_step accepted_by is_lot label_of
  lot_unrecorded label N n d D = refl

  pub run_unrecorded : (h w : ℕ) → tried p f (Run h w rec) ≡ tried p f (Run h w no_recording)
  unfolding tried allows rule_refusals stepped credit_step level_step continuous_step accepted_by is_lot
  run_unrecorded h w = refl

  pub block_unrecorded : (q w : ℕ) → tried p f (Block q w rec) ≡ tried p f (Block q w no_recording)
  unfolding tried allows rule_refusals stepped credit_step level_step continuous_step accepted_by is_lot
  block_unrecorded q w = refl

-- ---- records

module _ (p : Plan) (f : Figures) (r : Record) where
  -- nor does it matter for a record
  pub entered_anywhere : (i : ℕ) → i < most_records → entered p f i r ≡ entered p f 0 r
  unfolding entered stands
  entered_anywhere i free =
      let e : Entry = entry_of p f r in
      rw (accepted_parts p f i e, allows_anywhere p f i e free, ← accepted_parts p f 0 e)

  formed : (e : Entry) → well_formed r ≡ true → entry_of p f r ≡ e → lacks_recording e ≡ false → entered p f 0 r ≡ tried p f e
  unfolding entered stands tried
  formed e w same known = rw (w, same, accepted_parts p f 0 e, known, and-true (allows p f 0 e))

  failed : well_formed r && accepts p f 0 (entry_of p f r) ≡ false → entered p f 0 r ≡ None
  unfolding entered stands
  failed e = rw e

  -- what is known of a record that stands: its form, and that the rules allow its entry, with the recording that 17 asks for
  module _ (x : well_formed r ≡ true) (y : accepts p f 0 (entry_of p f r) ≡ true) where
    spare : r.spare ≡ 0
    unfolding well_formed
    spare = eqb-true r.spare 0 (both_true (eqb r.spare 0) _ x).0

    known : Bool
    known = eqb r.kind run_kind || eqb r.kind block_kind || eqb r.kind stop_kind && unrecorded r

    form : cond (eqb r.kind lot_kind) (eqb r.flag 0) (known && one_number r) ≡ true
    unfolding well_formed known
    form = (both_true (eqb r.spare 0) _ x).1

    both : (e : Entry) → entry_of p f r ≡ e → (allows p f 0 e ≡ true) × (not (lacks_recording e) ≡ true)
    both e same = both_true (allows p f 0 e) (not (lacks_recording e)) (sym (accepted_parts p f 0 e) ∙ rw same at y)

    given : (e : Entry) → entry_of p f r ≡ e → first_refusal (rule_refusals p f 0 e) ≡ 0
    given e same = allowed_zero p f 0 e (both e same).0

    not_lacking : (e : Entry) → entry_of p f r ≡ e → lacks_recording e ≡ true → ⊥
    not_lacking e same lacks = never_both (not (lacks_recording e)) (both e same).1 (rw lacks)

    -- by its kind
    by_kind : (P : Type 0)
        → (r.kind ≡ lot_kind → r.flag ≡ 0 → P)
        → (r.kind ≡ run_kind → one_number r ≡ true → P)
        → (r.kind ≡ block_kind → one_number r ≡ true → P)
        → (r.kind ≡ stop_kind → unrecorded r ≡ true → one_number r ≡ true → P)
        → P
    unfolding known
    by_kind P lot run block stop =
        go (eqb r.kind lot_kind) (eqb r.kind run_kind) (eqb r.kind block_kind) refl refl refl form
      where
        go : (k1 k2 k3 : Bool) → eqb r.kind lot_kind ≡ k1 → eqb r.kind run_kind ≡ k2 → eqb r.kind block_kind ≡ k3
            → cond k1 (eqb r.flag 0) ((k2 || k3 || eqb r.kind stop_kind && unrecorded r) && one_number r) ≡ true → P
        go true k2 k3 a b c t = lot (eqb-true r.kind lot_kind a) (eqb-true r.flag 0 t)
        go false true k3 a b c t = run (eqb-true r.kind run_kind b) t
        go false false true a b c t = block (eqb-true r.kind block_kind c) t
        go false false false a b c t =
            let last = both_true (eqb r.kind stop_kind && unrecorded r) (one_number r) t in
            let kind = both_true (eqb r.kind stop_kind) (unrecorded r) last.0 in
            stop (eqb-true r.kind stop_kind kind.0) kind.1 last.1

  -- ---- without a recording number only a stop can stand

  module _ (none : r.recording.number ≡ 0) where
    -- a record that holds a stop
    held : StopForm r → entered p f 0 r ≡ tried p f (Stop r.flag r.a)
    unfolding well_formed entry_of lacks_recording brings_recording
    held form = formed _ (rw (form.kind, form.spare, form.bare) form.one) (rw form.kind) refl

    stop_alone : well_formed r ≡ true → accepts p f 0 (entry_of p f r) ≡ true → holds_stop r ≡ true
    unfolding entry_of lacks_recording brings_recording brought_by
    stop_alone x y =
        by_kind x y (holds_stop r ≡ true)
        (λ k _. absurd (not_lacking x y (Lot r.a r.b (sample_asked p f r.b) r.c r.d r.recording) (rw k) (rw none)))
        (λ k _. absurd (not_lacking x y (Run r.a r.flag r.recording) (rw k) (rw none)))
        (λ k _. absurd (not_lacking x y (Block r.a r.flag r.recording) (rw k) (rw none)))
        (λ k bare one.
        let allowed = allowed_stop p f 0 _ _ (given x y (Stop r.flag r.a) (rw k)) in
        stop_held r (record { kind = k; first = allowed.first; last = allowed.last; spare = spare x y; one = one; bare = bare }))

    pub stop_record : (why : ℕ) → Some why ≡ why_of r → entered p f 0 r ≡ tried p f (Stop why r.a)
    unfolding why_of
    stop_record why holds = go (holds_stop r) refl holds
      where
        go : (b : Bool) → holds_stop r ≡ b → Some why ≡ cond b (Some r.flag) None → entered p f 0 r ≡ tried p f (Stop why r.a)
        go true s e = let same : why ≡ r.flag = cc in rw same (held (stop_form r s))
        go false s e = cc

    pub no_stop_record : None ≡ why_of r → entered p f 0 r ≡ None
    unfolding why_of
    no_stop_record holds = go (holds_stop r) (well_formed r) (accepts p f 0 (entry_of p f r)) refl refl refl holds
      where
        go : (b w a : Bool) → holds_stop r ≡ b → well_formed r ≡ w → accepts p f 0 (entry_of p f r) ≡ a
            → None ≡ cond b (Some r.flag) None → entered p f 0 r ≡ None
        go true w a s x y e = cc
        go false true true s x y e = absurd (never_both (holds_stop r) (stop_alone x y) s)
        go false true false s x y e = failed (rw (x, y))
        go false false a s x y e = failed (rw x)

  -- ---- with one only a lot, run or block

  module _ (recorded : r.recording.number ≡ 0 → ⊥) where
    -- a lot's, by its head
    pub lot_record_lem : head_of r ≡ lot_kind → entered p f 0 r ≡ tried p f (asked_lot p f r.a r.b r.c r.d)
    unfolding asked_lot head_of well_formed entry_of lacks_recording brings_recording brought_by
    lot_record_lem head =
        let kind : r.kind ≡ lot_kind = omega arith in
        let flag : r.flag ≡ 0 = omega arith in
        let spare : r.spare ≡ 0 = omega arith in
        formed _ (rw (kind, flag, spare)) (rw kind) (ne_eqb r.recording.number 0 recorded)
        ∙ lot_unrecorded p f r.recording r.a r.b (sample_asked p f r.b) r.c r.d

    -- and of a run and a block, with their flag
    module _ (kinds : r.kind < 256) (flags : r.flag < 256) (one : one_number r ≡ true) (w : ℕ) (small : w < 256) where
      pub run_record : head_of r ≡ flagged run_kind w → entered p f 0 r ≡ tried p f (Run r.a w no_recording)
      unfolding well_formed entry_of lacks_recording brings_recording brought_by
      run_record head =
          let form = head_is r run_kind w kinds flags (omega arith) small head in
          formed (Run r.a w r.recording) (rw (form.0, form.2) one) (rw (form.0, form.1)) (ne_eqb r.recording.number 0 recorded)
          ∙ run_unrecorded p f r.recording r.a w

      pub block_record : head_of r ≡ flagged block_kind w → entered p f 0 r ≡ tried p f (Block r.a w no_recording)
      unfolding well_formed entry_of lacks_recording brings_recording brought_by
      block_record head =
          let form = head_is r block_kind w kinds flags (omega arith) small head in
          formed (Block r.a w r.recording) (rw (form.0, form.2) one) (rw (form.0, form.1)) (ne_eqb r.recording.number 0 recorded)
          ∙ block_unrecorded p f r.recording r.a w

    -- one that is no lot's on a stream for lots, nor a run's or block's that a continuous stream allows, cannot stand
    module _ (lot : head_of r ≡ lot_kind → is_continuous p ≡ false → ⊥)
        (run : one_number r ≡ true → is_continuous p ≡ true → (w : ℕ) → w ≤ 1 → head_of r ≡ flagged run_kind w → allows p f 0 (Run r.a w no_recording) ≡ false)
        (block : one_number r ≡ true → is_continuous p ≡ true → (w : ℕ) → w ≤ 1 → head_of r ≡ flagged block_kind w → allows p f 0 (Block r.a w no_recording) ≡ false) where
      none_stands : well_formed r ≡ true → accepts p f 0 (entry_of p f r) ≡ true → ⊥
      unfolding head_of entry_of allows rule_refusals
      none_stands x y =
          by_kind x y ⊥
          (λ k flag.
          let n : ℕ = sample_asked p f r.b in
          let lots = (allowed_lot p f 0 r.a r.b n r.c r.d r.recording (given x y (Lot r.a r.b n r.c r.d r.recording) (rw k))).lots in
          lot (omega (arith, spare x y)) lots)
          (λ k one.
          let e : Entry = Run r.a r.flag r.recording in
          let allowed = allowed_run p f 0 r.a r.flag r.recording (given x y e (rw k)) in
          never_both _ (both x y e (rw k)).0 (run one allowed.continuous r.flag allowed.wrong (omega (arith, spare x y))))
          (λ k one.
          let e : Entry = Block r.a r.flag r.recording in
          let allowed = allowed_block p f 0 r.a r.flag r.recording (given x y e (rw k)) in
          never_both _ (both x y e (rw k)).0 (block one allowed.continuous r.flag allowed.wrong (omega (arith, spare x y))))
          (λ k bare one.
          recorded (eqb-true r.recording.number 0 (both_true (eqb r.recording.number 0) (eqb r.recording.second 0) bare).0))

      pub other_record : entered p f 0 r ≡ None
      other_record = go (well_formed r) (accepts p f 0 (entry_of p f r)) refl refl
        where
          go : (w a : Bool) → well_formed r ≡ w → accepts p f 0 (entry_of p f r) ≡ a → entered p f 0 r ≡ None
          go true true x y = absurd (none_stands x y)
          go true false x y = failed (rw (x, y))
          go false a x y = failed (rw x)

-- ---- a plan's step, told in figures: once for any type of steps, by what a step is told as on the figures before it
module _ {Step : Type 0} (tells : Figures → Step → Option Figures) (f : Figures) (x z : Step) where
  -- a step that turned out to be this one
  module _ (is : x ≡ z) (v : Option Figures) (told : tells f z ≡ v) where
    pub told_in : v ≡ tells f x
    told_in = rw is (sym told)

    pub told_as_lem : (y : Option Figures) → tells f x ≡ y → v ≡ y
    told_as_lem y gives = told_in ∙ gives

  -- a step by a test
  pub by_test : (b : Bool) (g : Figures) → tells f x ≡ Some g → tells f z ≡ None → tells f (cond b x z) ≡ entered_if b g
  by_test true g stands fails = stands
  by_test false g stands fails = fails

-- the same of a step that gives numbers: where the test holds, those after it stand for the figures after it
pub told_by_test : {C : Type 0} (shown : C → Figures) (ranged : C → Type 0) (b : Bool) (x : C) (g : Figures) → shown x ≡ g → ranged x
    → Tells shown ranged (cond b (Some x) None) (entered_if b g)
told_by_test shown ranged true x g same kept = record { same = ap Some same; in_range = kept }
told_by_test shown ranged false x g same kept = record { same = refl; in_range = tt }
