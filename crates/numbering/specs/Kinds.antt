-- The numbers of the calls: paper 01, "Hexadecimal frames", "call (1 Open to 8 Read, in the order above)", and paper 02, card 1, where the
-- call that hands back the newest records is 9. Assumes nothing.
use Rattle.std.specs.Prelude.{◌≡◌, ℕ, ◌≤◌, ◌<◌, Result, MatchResult}
use Rattle.numbering.specs.declared.Kind.{Kind}
use Rattle.numbering.specs.declared.Kind.TheVariants.{Open, Lot, Run, Block, Stop, Back, Ask, Read, Newest}
use Rattle.numbering.specs.declared.NoCall.{NoCall}

abbrev pub number_of : Kind → ℕ
number_of Open = 1
number_of Lot = 2
number_of Run = 3
number_of Block = 4
number_of Stop = 5
number_of Back = 6
number_of Ask = 7
number_of Read = 8
number_of Newest = 9

-- a number stands for the call that has it, and any other for none
abbrev pub StandsFor : ℕ → Result Kind NoCall → Type 0
StandsFor number r = MatchResult r (λ kind. number_of kind ≡ number) (λ none. 1 ≤ number → 9 < number)
