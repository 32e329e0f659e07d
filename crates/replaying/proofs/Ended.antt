-- A discontinued stream takes nothing: no rule allows an entry, by the kinds of entries. Assumes nothing.
use mathlib.Core.Path.{◌≡◌, sym, ◌∙◌}
use mathlib.Core.Bool.{Bool, true, false, and-false}
use Rattle.std.specs.Prelude.{None}
use Rattle.model.specs.declared.Plan.{Plan}
use Rattle.model.specs.declared.Entry.{Entry}
use Rattle.model.specs.declared.Entry.TheVariants.{Lot, Run, Block, Stop}
use Rattle.model.specs.declared.Figures.{Figures}
use Rattle.model.specs.declared.Record.{Record}
use Rattle.model.specs.Stations.{is_continuous}
use Rattle.model.specs.Records.{entry_of}
use Rattle.model.specs.Calls.{first_refusal, rule_refusals, is_discontinued, allows}
use Rattle.model.proofs.Allowed.{accepted_parts}
use Rattle.replaying.specs.Replaying.{well_formed, stands, entered, tried, Tells}

module _ (p : Plan) (f : Figures) where
  none_allowed : is_continuous p ≡ false → is_discontinued f ≡ true → (e : Entry) → allows p f 0 e ≡ false
  unfolding allows first_refusal rule_refusals
  none_allowed lots ended (Lot label N n d D rec) = rw (lots, ended)
  none_allowed lots ended (Run h w rec) = rw lots
  none_allowed lots ended (Block q w rec) = rw lots
  none_allowed lots ended (Stop why days) = rw ended

  -- by the code's own test
  module _ (over : Bool) (tested : over ≡ is_discontinued f) (lots : over ≡ true → is_continuous p ≡ false) (ends : over ≡ true) where
    pub ended_entry : (e : Entry) → tried p f e ≡ None
    unfolding tried
    ended_entry e = rw (none_allowed (lots ends) (sym tested ∙ ends) e)

    ended_record : (r : Record) → entered p f 0 r ≡ None
    unfolding entered stands
    ended_record r =
        let e : Entry = entry_of p f r in
        rw (accepted_parts p f 0 e, none_allowed (lots ends) (sym tested ∙ ends) e, and-false (well_formed r))

    pub ended_tells : {C : Type 0} (shown : C → Figures) (ranged : C → Type 0) (r : Record) → Tells shown ranged None (entered p f 0 r)
    ended_tells shown ranged r = record { same = sym (ended_record r); in_range = tt }
