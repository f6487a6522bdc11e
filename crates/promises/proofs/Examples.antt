-- Examples, by computation. Nothing is vacuous: a file with each kind of entry is accepted, the first as in the paper's printed
-- listing, and that one with wide and open boxes too, but not with an open `trak`; M1 to M12 are answered as marked; each edit is
-- done, gives the file that one sees, and leaves its one sample.
use mathlib.Core.Path.{◌≡◌, refl}
use mathlib.Core.Bool.{true}
use mathlib.Core.List.{[], ◌∷◌, map}
use Rattle.wire.specs.Clauses.{either, every, is_eq, is_le, is_lt, one_if}
use Rattle.wire.specs.Numbers.{bytes, bytes_on, word}
use Rattle.wire.specs.Sums.{all_to, sum_to}
use Rattle.wire.specs.Tests.{if_eq, if_le, if_lt}
use Rattle.boxes.specs.Box.{header, write}
use Rattle.boxes.specs.Boxes.{after, boxes, form_of, total, whole}
use Rattle.boxes.specs.Containers.{kind_in, parent}
use Rattle.boxes.specs.Rewrite.{edit_box, edit_in, over_boxes}
use Rattle.boxes.specs.Seek.{all_plain, count, meant, nth, place_by, place_in, start_in}
use Rattle.boxes.specs.Way.{around, box_by, edit_way, nth_by, over_nth, over_turn}
use Rattle.boxes.specs.Words.{each_word, reword, reword_leaf}
use Rattle.clocks.specs.Clocks.{may_shift, shift_time}
use Rattle.movie.specs.Entries.{entries, entries_from, entries_in, entries_of}
use Rattle.movie.specs.Movie.{handler, references, sample_table, scale, track}
use Rattle.movie.specs.Named.{bytes_at, spot_in}
use Rattle.movie.specs.Stsds.{stsds, stsds_from}
use Rattle.movie.specs.Ways.{follow, place_along, start_along}
use Rattle.mdat.specs.Payloads.{in_box, past, place_of, resolve}
use Rattle.mdat.specs.Relocate.{relocate}
use Rattle.mdat.specs.Rules.{chunk_in, chunks_in, lies}
use Rattle.mdat.specs.Samples.{samples_of}
use Rattle.sample_walk.specs.Samples.{chunk_samples, join_to, samples_at}
use Rattle.sample_tables.specs.Chunks.{chunk_at, description_of, extent_of, first_sample, samples_in}
use Rattle.sample_tables.specs.Rules.{empty_together, tables_agree}
use Rattle.sample_tables.specs.Runs.{rises, run_among, run_fine, run_of, runs_fine}
use Rattle.sample_tables.specs.Sizes.{bytes_from, size_at, sizes_listed}
use Rattle.sample_tables.specs.Tables.{has_form}
use Rattle.sample_tables.specs.Times.{timed_to}
use Rattle.entry_heads.specs.Heads.{audio_head, audio_rule, box_header, common_head, common_rule, head_rule, head_size, name_rule, visual_head, visual_rule, visual_start}
use Rattle.entry_heads.specs.Kinds.{handler_of, kind_of}
use Rattle.release.specs.Compatible.{times_to, brand_listed, brand_missing}
use Rattle.release.specs.Releases.{release_in}
use Rattle.entry_rules.specs.Decoders.{box_rule, d263_rule, damr_rule, frames_rule, mode_mask, modes_rule, period_rule, rated_rule, record_rule}
use Rattle.entry_rules.specs.Entries.{avc_rule, entry_rule, esds_rule, handler_rule, inside_rule, rule_as, scale_rule, track_rule}
use Rattle.rule.specs.Judge.{judge_box, judge_in, judge_list}
use Rattle.rule.specs.Results.{answer_in, asked, left_in}
use Rattle.rule.specs.Rule.{all_box, all_in, all_list}
use Rattle.rule.specs.Verdict.{sooner, unless}
use Rattle.rule_shape.specs.Three.{besides, exactly, first, needed, shape}
use Rattle.rule_shape.specs.Two.{may_have}
use Rattle.rule_shape.specs.TwentyThree.{barred}
use Rattle.rule_headers.specs.Forms.{brands_form, form, handler_form, head_form, if_box}
use Rattle.rule_headers.specs.Four.{tracks_in}
use Rattle.rule_headers.specs.Identities.{fresh, fresh_to, identity, tkhd_place}
use Rattle.rule_lists.specs.Five.{list_form_in, list_form, passing}
use Rattle.rule_lists.specs.Nine.{is_url}
use Rattle.rule_tracks.specs.Eight.{eight_at, eight_holds}
use Rattle.rule_tracks.specs.Seven.{seven_holds, seven_in}
use Rattle.rule_tracks.specs.Six.{table_fine, table_in}
use Rattle.rule_entries.specs.Ten.{around_of, entries_judged, stsds_judged, ten_at}
use Rattle.judge.specs.Calls.{result_on, when_accepted}
use Rattle.judge.specs.Judgement.{judged, judged_from, unless_broken}
use Rattle.judge.specs.One.{one_in}
use Rattle.edit_offsets.specs.Close.{closed, form_after}
use Rattle.edit_offsets.specs.Settle.{settled}
use Rattle.edit_shift.specs.Shift.{all_times, all_times_by, both, has_times, shift_of, shift_result, shiftable, times_leaf, track_times}
use Rattle.edit_replace.specs.Replace.{kind_at, record_code, record_replaced, replace_of, replace_result, takes}
use Rattle.edit_move.specs.Moving.{just, moov_second, move_of, move_result, others}
use Rattle.promise_kept.specs.Samples.{samples}
use Rattle.promises.specs.Example.{kinds, numbers}
use Rattle.promises.specs.Forms.{other_forms}
use Rattle.promises.specs.Marked.{marked_cases, all_marked}
use Rattle.promises.specs.Worked.{media_first, edits, answers, files, expected}
use Rattle.rule.specs.Answers.{Done}

pub examples : (numbers kinds ≡ 0 ∷ 0 ∷ 0 ∷ 0 ∷ 0 ∷ 0 ∷ 0 ∷ 0 ∷ [])
    × (numbers other_forms ≡ 0 ∷ 0 ∷ 0 ∷ 0 ∷ 2 ∷ [])
    × (all_marked marked_cases ≡ true)
    × (answers edits media_first ≡ Done 603 ∷ Done 603 ∷ Done 619 ∷ Done 603 ∷ [])
    × (files edits media_first ≡ expected)
    × (map (λ xs. samples xs 0) (media_first ∷ expected) ≡ map (λ xs. (60 ∷ []) ∷ []) (media_first ∷ expected))
unfolding either every is_eq is_le is_lt one_if bytes bytes_on word all_to sum_to if_eq if_le if_lt header write after boxes form_of total whole kind_in parent edit_box edit_in over_boxes all_plain count meant nth place_by place_in start_in around box_by edit_way nth_by over_nth over_turn each_word reword reword_leaf may_shift shift_time entries entries_from entries_in entries_of handler references sample_table scale track bytes_at spot_in stsds stsds_from follow place_along start_along in_box past place_of resolve relocate chunk_in chunks_in lies chunk_samples join_to samples_at samples_of chunk_at description_of extent_of first_sample samples_in empty_together tables_agree rises run_among run_fine run_of runs_fine bytes_from size_at sizes_listed has_form timed_to audio_head audio_rule box_header common_head common_rule head_rule head_size name_rule visual_head visual_rule visual_start handler_of kind_of box_rule d263_rule damr_rule frames_rule mode_mask modes_rule period_rule rated_rule record_rule avc_rule entry_rule esds_rule handler_rule inside_rule rule_as scale_rule track_rule judge_box judge_in judge_list answer_in asked left_in all_box all_in all_list sooner unless besides exactly first needed shape may_have barred brands_form form handler_form head_form if_box tracks_in fresh fresh_to identity tkhd_place list_form_in list_form passing is_url eight_at eight_holds seven_holds seven_in table_fine table_in times_to brand_listed brand_missing release_in around_of entries_judged stsds_judged ten_at result_on when_accepted judged judged_from unless_broken one_in closed form_after settled all_times all_times_by both has_times shift_of shift_result shiftable times_leaf track_times kind_at record_code record_replaced replace_of replace_result takes just moov_second move_of move_result others samples
examples = (refl, refl, refl, refl, refl, refl)
