-- Unfolds definitions, so that they compute on literal values.
use Rattle.std.specs.Fmt.{digits}
use Rattle.std.specs.Str.{is_utf8, chars}
use Rattle.std.specs.Char.{encode_utf8}
use Rattle.field_codec.specs.Fields.{part_at, number_at, checked, ranged, ranged_at, utf8_of, text_at, whole}
use Rattle.event_codec.specs.EventReading.{flag_of, flag_at, moment_at, flagged_until_at, until_at, status_at, kind_of_exit, exit_at, policy_of, policy_at, list_at, filters_at, some_filters_at, flagged_filters_at, maybe_filters_at, pages_at, total_at, words_at, worded_at, attribute_at, level_of, level_at, message_at, kind_of_effect, effect_at, some_room, effect_within, listed_at, effects_at, new_queue_at, queue_at, notes_at, accept_at, stop_at, ticket_at, new_job_at, job_at, job_by_at, piece_at, send_at, closing_at, hold_at, numbered_at, clock_at, stage_at, fields_at, event_at}
use Rattle.event_codec.specs.RowReading.{hold_reason_of, indefinite_at, until_moment_at, kind_of_holding, holding_at, abort_reason_of, incoming_at, waiting_at, processing_at, aborted_at, kind_of_phase, phase_at, some_media_at, flagged_media_at, typed_at, reason_after, attribute_after, ascending_at, reasons_at, attributes_at, head_at, queue_state_at, listed_queue_at, queue_row_at, created_at, job_state_at, some_by_at, flagged_by_at, by_at, listed_job_at, job_row_at, piece_row_at, row_fields_at, row_at}

-- Numbers in decimals.
unfoldable pub printing_numbers : Unit {0}
unfolding digits
printing_numbers = tt

-- Events, and rows of a listing.
unfoldable pub reading_events : Unit {0}
unfolding is_utf8 chars encode_utf8 part_at number_at checked ranged ranged_at utf8_of text_at whole flag_of flag_at moment_at flagged_until_at until_at status_at kind_of_exit exit_at policy_of policy_at list_at filters_at some_filters_at flagged_filters_at maybe_filters_at pages_at total_at words_at worded_at attribute_at level_of level_at message_at kind_of_effect effect_at some_room effect_within listed_at effects_at new_queue_at queue_at notes_at accept_at stop_at ticket_at new_job_at job_at job_by_at piece_at send_at closing_at hold_at numbered_at clock_at stage_at fields_at event_at
reading_events = tt

unfoldable pub reading_rows : Unit {0}
unfolding reading_events hold_reason_of indefinite_at until_moment_at kind_of_holding holding_at abort_reason_of incoming_at waiting_at processing_at aborted_at kind_of_phase phase_at some_media_at flagged_media_at typed_at reason_after attribute_after ascending_at reasons_at attributes_at head_at queue_state_at listed_queue_at queue_row_at created_at job_state_at some_by_at flagged_by_at by_at listed_job_at job_row_at piece_row_at row_fields_at row_at
reading_rows = tt
