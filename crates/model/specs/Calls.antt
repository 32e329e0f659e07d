-- The calls on a station: paper 01, "Calls", and paper 02, cards 1 and 3. Assumes nothing.
use Rattle.std.specs.Prelude.{ℕ, ◌+◌, ◌-◌, min, Bool, true, false, cond, not, ◌&&◌, ◌||◌, List, [], ◌∷◌, ◌++◌, eqb, ltb, leb, length}
use Rattle.plans.specs.Verdicts.{lot_heard, lot_withheld}
use Rattle.plans.specs.Limits.{least_lot, largest_lot, longest_run, longest_stop, within}
use Rattle.plans.specs.Severities.{discontinued}
use Rattle.plans.specs.Continuous.{is_sampling, after_block}
use Rattle.model.specs.declared.Plan.{Plan}
use Rattle.model.specs.declared.Entry.{Entry}
use Rattle.model.specs.declared.Entry.TheVariants.{Lot, Run, Block, Stop}
use Rattle.model.specs.declared.Call.{Call}
use Rattle.model.specs.declared.Call.TheVariants.{Open, Enter, Back, Ask, Read, Newest}
use Rattle.model.specs.declared.Recording.{Recording}
use Rattle.model.specs.declared.Figures.{Figures}
use Rattle.model.specs.declared.Answer.{Answer}
use Rattle.model.specs.Sizes.{most_records}
use Rattle.model.specs.Stations.{Station, unopened, opened, is_credit, is_level, is_continuous, valid_plan, all_words, entry_arguments}
use Rattle.model.specs.Figuring.{sample_asked, verdict_on, accepted_by, stepped, figures_of}
use Rattle.model.specs.Records.{no_recording, record_of}

-- a refusal: it applies, and its number
pub record Refusal : Type 0 where
  pub applies : Bool
  pub number : ℕ

abbrev pub refuse : ℕ → Bool → Refusal
refuse n test = record { applies = test; number = n }

-- the first that applies is given, 0 where none does
unfoldable pub first_refusal : List Refusal → ℕ
first_refusal [] = 0
first_refusal (r ∷ rs) = cond r.applies r.number (first_refusal rs)

-- 8: the stream is discontinued
unfoldable pub is_discontinued : Figures → Bool
is_discontinued f = eqb f.level.level discontinued

-- 9: 128 records stand
unfoldable pub is_full : ℕ → Bool
is_full count = leb most_records count

-- 10: the label equals the newest standing lot's, given the least label above that
abbrev pub same_label : ℕ → ℕ → Bool
same_label above label = eqb (label + 1) above

-- 11: N from 1 (level: 2) to 1,000,000
unfoldable pub size_in_range : Plan → ℕ → Bool
size_in_range p N = within (least_lot (is_level p)) largest_lot N

-- 13: d is at most n; without a wrong one in the sample there is none in all that was heard; of a lot heard whole D is from d to
-- N - n + d, and of one returned or withheld it is d
unfoldable pub counts_agree : ℕ → ℕ → ℕ → ℕ → ℕ → Bool
counts_agree verdict N n d D =
    leb d n
    && (not (eqb d 0) || eqb D 0)
    && (not (eqb verdict lot_heard) || within d (N - n + d) D)
    && (not (eqb verdict lot_withheld) || eqb D d)

-- the refusals of paper 01 of a call that enters something, in its order, with figures f and so many standing records. They do not look
-- at a recording
unfoldable pub rule_refusals : Plan → Figures → ℕ → Entry → List Refusal
rule_refusals p f count (Lot label N n d D rec) =
    refuse 7 (is_continuous p)
    ∷ refuse 8 (is_discontinued f)
    ∷ refuse 9 (is_full count)
    ∷ refuse 10 (same_label f.above label)
    ∷ refuse 11 (not (size_in_range p N))
    ∷ refuse 12 (not (eqb n (sample_asked p f N)))
    ∷ refuse 13 (not (counts_agree (verdict_on p f d) N n d D))
    ∷ []
rule_refusals p f count (Run h w rec) =
    refuse 7 (not (is_continuous p))
    ∷ refuse 9 (is_full count)
    ∷ refuse 15 (ltb longest_run h || ltb 1 w || eqb (h + w) 0)
    ∷ refuse 14 (is_sampling f.continuous || ltb p.a (f.continuous.count + h + w))
    ∷ []
rule_refusals p f count (Block q w rec) =
    refuse 7 (not (is_continuous p))
    ∷ refuse 9 (is_full count)
    ∷ refuse 15 (not (within 1 p.b q) || ltb 1 w)
    ∷ refuse 14 (not (is_sampling f.continuous))
    ∷ []
rule_refusals p f count (Stop why days) =
    refuse 8 (is_discontinued f)
    ∷ refuse 9 (is_full count)
    ∷ refuse 15 (not (within 1 2 why) || ltb longest_stop days || (eqb why 2 && ltb 0 days))
    ∷ []

-- paper 01's rules allow the entry
unfoldable pub allows : Plan → Figures → ℕ → Entry → Bool
allows p f count e = eqb (first_refusal (rule_refusals p f count e)) 0

-- a lot, a run or a block
unfoldable pub brings_recording : Entry → Bool
brings_recording (Lot label N n d D rec) = true
brings_recording (Run h w rec) = true
brings_recording (Block q w rec) = true
brings_recording (Stop why days) = false

-- the recording that it brings, zeros where it is a stop
unfoldable pub brought_by : Entry → Recording
brought_by (Lot label N n d D rec) = rec
brought_by (Run h w rec) = rec
brought_by (Block q w rec) = rec
brought_by (Stop why days) = no_recording

-- 17: the recording number is 0. A stop has no recording to bring
unfoldable pub lacks_recording : Entry → Bool
lacks_recording e = brings_recording e && eqb (brought_by e).number 0

-- all refusals of such a call: paper 02, card 1, has 17 "last in its call's order"
unfoldable pub entry_refusals : Plan → Figures → ℕ → Entry → List Refusal
entry_refusals p f count e = rule_refusals p f count e ++ (refuse 17 (lacks_recording e) ∷ [])

-- such a call is accepted
unfoldable pub accepts : Plan → Figures → ℕ → Entry → Bool
accepts p f count e = eqb (first_refusal (entry_refusals p f count e)) 0

-- the refusals of an ask
unfoldable pub ask_refusals : Plan → Figures → ℕ → List Refusal
ask_refusals p f N =
    refuse 7 (is_continuous p) ∷ refuse 8 (is_discontinued f) ∷ refuse 11 (not (size_in_range p N)) ∷ []

-- the refusals of every call on a station
unfoldable pub refusals : Station → Call → List Refusal
refusals unopened (Open q) = refuse 5 (not (valid_plan q)) ∷ []
refusals unopened (Enter e) = refuse 6 true ∷ []
refusals unopened Back = refuse 6 true ∷ []
refusals unopened (Ask N) = refuse 6 true ∷ []
refusals unopened Read = refuse 6 true ∷ []
refusals unopened (Newest n) = refuse 6 true ∷ []
refusals (opened p es) (Open q) = refuse 4 true ∷ refuse 5 (not (valid_plan q)) ∷ []
refusals (opened p es) (Enter e) = entry_refusals p (figures_of p es) (length es) e
refusals (opened p es) Back = refuse 16 (eqb (length es) 0) ∷ []
refusals (opened p es) (Ask N) = ask_refusals p (figures_of p es) N
refusals (opened p es) Read = []
refusals (opened p es) (Newest n) = []

unfoldable pub refusal_of : Station → Call → ℕ
refusal_of st c = first_refusal (refusals st c)

-- the three numbers of an answer that is no refusal
abbrev pub gives : ℕ → ℕ → ℕ → Answer
gives a b c = record { refusal = 0; first = a; second = b; third = c }

abbrev pub refused : ℕ → Answer
refused n = record { refusal = n; first = 0; second = 0; third = 0 }

-- credit, or level
unfoldable pub lot_figure : Plan → Figures → ℕ
lot_figure p f = cond (is_credit p) f.credit.0 f.level.level

-- credit, or level, or c, in sampling 65,536 + u
unfoldable pub read_figure : Plan → Figures → ℕ
read_figure p f =
    cond (is_continuous p)
    (cond (is_sampling f.continuous) (65536 + f.continuous.tail) f.continuous.count)
    (lot_figure p f)

-- what an entry gives, from the figures before it
unfoldable pub entry_answer : Plan → Figures → Entry → Answer
entry_answer p f (Lot label N n d D rec) =
    gives (verdict_on p f d) (accepted_by p f (Lot label N n d D rec)) (lot_figure p (stepped p (Lot label N n d D rec) f))
entry_answer p f (Run h w rec) = gives (accepted_by p f (Run h w rec)) (stepped p (Run h w rec) f).continuous.phase 0
entry_answer p f (Block q w rec) =
    gives (accepted_by p f (Block q w rec))
    (after_block p.b q (eqb w 1) f.continuous).hear_back
    (stepped p (Block q w rec) f).continuous.phase
entry_answer p f (Stop why days) = gives 0 0 0

-- the kind of the newest record
unfoldable pub newest_kind : List Entry → ℕ
newest_kind [] = 0
newest_kind (e ∷ es) = (record_of e).kind

-- paper 02, card 1: as many of the newest records as the count says, or all where fewer stand
unfoldable pub newest_of : ℕ → List Entry → ℕ
newest_of n es = min n (length es)

-- what an accepted call gives
unfoldable pub answer_of : Station → Call → Answer
answer_of unopened c = gives 0 0 0
answer_of (opened p es) (Open q) = gives 0 0 0
answer_of (opened p es) (Enter e) = entry_answer p (figures_of p es) e
answer_of (opened p es) Back = gives (newest_kind es) 0 0
answer_of (opened p es) (Ask N) = gives (sample_asked p (figures_of p es) N) 0 0
answer_of (opened p es) Read = gives (length es) (figures_of p es).accepted (read_figure p (figures_of p es))
answer_of (opened p es) (Newest n) = gives (newest_of n es) 0 0

unfoldable pub without_newest : List Entry → List Entry
without_newest [] = []
without_newest (e ∷ es) = es

-- the station after an accepted call
unfoldable pub changed : Station → Call → Station
changed unopened (Open q) = opened q []
changed unopened (Enter e) = unopened
changed unopened Back = unopened
changed unopened (Ask N) = unopened
changed unopened Read = unopened
changed unopened (Newest n) = unopened
changed (opened p es) (Open q) = opened p es
changed (opened p es) (Enter e) = opened p (e ∷ es)
changed (opened p es) Back = opened p (without_newest es)
changed (opened p es) (Ask N) = opened p es
changed (opened p es) Read = opened p es
changed (opened p es) (Newest n) = opened p es

-- a call on a station: its answer, and the station after it. A refusal gives three zeros and changes nothing
pub record Outcome : Type 0 where
  pub answer : Answer
  pub station : Station

unfoldable pub call : Station → Call → Outcome
call st c =
    record {
      answer = cond (eqb (refusal_of st c) 0) (answer_of st c) (refused (refusal_of st c));
      station = cond (eqb (refusal_of st c) 0) (changed st c) st;
    }

-- the standing entries that calls could have left: each was accepted after those before it
unfoldable pub admissible : Plan → List Entry → Bool
admissible p [] = true
admissible p (e ∷ es) =
    admissible p es && accepts p (figures_of p es) (length es) e && all_words (entry_arguments e)

unfoldable pub admissible_station : Station → Bool
admissible_station unopened = true
admissible_station (opened p es) = valid_plan p && admissible p es
