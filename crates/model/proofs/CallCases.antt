-- The cases hold: the definitions are run. Assumes nothing.
use mathlib.Core.Path.{refl}
use Rattle.plans.specs.Credit.{rounded_up, usable_credit, sample_dividend, sample_divisor, credit_sample, credit_verdict, credit_after}
use Rattle.plans.specs.Verdicts.{accepted_of, level_verdict}
use Rattle.plans.specs.Tables.{table1, last_letters, letters_in, code_letter, table2, column_at, tabled, level_sample}
use Rattle.plans.specs.Stops.{set_up_changed, long_stop}
use Rattle.plans.specs.Levels.{
  level_start,
  lengthened,
  judged_on_tightened,
  shifted,
  withheld_in,
  counted,
  arrived,
  after_normal,
  after_tightened,
  after_reduced,
  level_after,
  moved,
  judged_lot,
  met_stop,
}
use Rattle.plans.specs.Continuous.{screening, sampling, is_sampling, after_run, after_block, after_stop}
use Rattle.little.specs.Little.{bytes, value, part, written}
use Rattle.model.specs.Stations.{is_credit, is_level, is_continuous, has_option, valid_ranges, valid_ceiling, valid_plan, entry_arguments, all_words}
use Rattle.plans.specs.Limits.{within}
use Rattle.model.specs.Figuring.{
  no_level,
  started,
  sample_asked,
  verdict_on,
  accepted_by,
  credit_step,
  level_step,
  continuous_step,
  is_lot,
  label_of,
  stepped,
  figures_of,
}
use Rattle.model.specs.Records.{recording_bytes, record_bytes, recording_in, record_in, record_of, entry_of}
use Rattle.model.specs.Calls.{
  first_refusal,
  is_discontinued,
  is_full,
  size_in_range,
  counts_agree,
  rule_refusals,
  brings_recording,
  brought_by,
  lacks_recording,
  entry_refusals,
  accepts,
  ask_refusals,
  refusals,
  refusal_of,
  lot_figure,
  read_figure,
  entry_answer,
  newest_kind,
  newest_of,
  answer_of,
  without_newest,
  changed,
  call,
  admissible,
  admissible_station,
}
use Rattle.model.specs.Area.{
  header_of,
  records_of,
  area_of,
  plan_in,
  count_in,
  entries_in,
  station_in,
  same_bytes,
  reading,
  on_area,
}
use Rattle.model.specs.Store.{fresh, area_at, on_stream, on_store, store_after, answers_to, newest_part, newest_records}
use Rattle.model.specs.Claims.{on_all}
use Rattle.model.specs.Cases.{
  calls_of,
  station_answers,
  not_permitted,
  five_beat_ten,
  agreed_case,
  credit_edges,
  continuous_edges,
  recording_edges,
  recording_in_turn,
  answers_of,
  frame_case,
  credit_case,
  level_case,
  strict_case,
  continuous_case,
  lots_alike,
  reduced_case,
  wrong_lots,
  taken_back,
  ceiling_case,
  ceiling_edges,
  discontinued_case,
  credit_area,
  level_area,
  continuous_area,
  three_stand,
  CasesHold,
}

pub cases_hold_lem : CasesHold
unfolding
    rounded_up usable_credit sample_dividend sample_divisor credit_sample credit_verdict credit_after accepted_of level_verdict
    table1 last_letters letters_in code_letter table2 column_at tabled level_sample set_up_changed long_stop
    level_start lengthened judged_on_tightened shifted withheld_in counted arrived after_normal after_tightened after_reduced
    level_after moved judged_lot met_stop screening sampling is_sampling after_run after_block after_stop bytes value part written
    is_credit is_level is_continuous has_option within valid_ranges valid_ceiling valid_plan entry_arguments all_words
    no_level started sample_asked verdict_on accepted_by credit_step level_step continuous_step is_lot label_of stepped figures_of
    first_refusal is_discontinued is_full size_in_range counts_agree rule_refusals brings_recording brought_by lacks_recording entry_refusals accepts ask_refusals refusals refusal_of lot_figure read_figure
    entry_answer newest_kind newest_of answer_of without_newest changed call admissible admissible_station
    recording_bytes record_bytes recording_in record_in record_of entry_of header_of records_of area_of plan_in count_in entries_in station_in same_bytes
    reading on_area fresh area_at on_stream on_store store_after answers_to newest_part newest_records on_all calls_of answers_of
    frame_case credit_case level_case strict_case continuous_case lots_alike reduced_case wrong_lots taken_back discontinued_case station_answers not_permitted five_beat_ten agreed_case ceiling_case ceiling_edges credit_edges continuous_edges recording_edges recording_in_turn
    credit_area level_area continuous_area three_stand
cases_hold_lem =
    (refl, refl, refl, refl, refl, refl, refl, refl, refl, refl, refl, refl, refl, refl, refl, refl, refl, refl, (refl, refl), (refl, refl, refl, refl, refl, refl), (refl, refl, refl, refl), (refl, refl, refl), (refl, refl, refl, refl, refl))
