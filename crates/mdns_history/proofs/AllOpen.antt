-- One name that opens all definitions, for worked rows and for laws that hold by computation.
use Rattle.std.proofs.Common.{ℕ}
use Rattle.hex.specs.Hex.{encode_with}
use Rattle.number_text.specs.Digits.{four_text, ipv4_text, hex_text, ipv6_half_text, ipv6_text}
use Rattle.dns_name.specs.Names.{folded_eq, exact_eq, name_cmp, is_under}
use Rattle.dns_record.specs.Records.{data_eq, same, rdata_cmp, record_cmp, matches, key_eq, key_cmp, is_rdata}
use Rattle.dns_record.specs.RecordText.{kind_name, kind_text, data_text, record_text}
use Rattle.dns_pointers.specs.Reading.{label_at, target_at, labels_at, name_at}
use Rattle.dns_message.specs.Reading.{name_within, name_up_to, srv_at, ns_at, nsec_at, mx_at, soa_at, rdata_at, record_at, question_at, all_at, sections_at, spelled}
use Rattle.dns_pointers.specs.Writing.{offset_of, written_name}
use Rattle.dns_message.specs.Writing.{written_question, written_data, written_record, written_all, header, written_body, written}
use Rattle.sd_name.specs.ServiceTypes.{service_type, is_service_label}
use Rattle.sd_name.specs.Renaming.{renamed, host_renamed}
use Rattle.sd_call.specs.Answers.{answer_cmp, answer_eq}
use Rattle.mdns_history.specs.Hearings.{heard_in, hearings}
use Rattle.mdns_history.specs.Lifetimes.{record_end, live_of, live_records, is_too_full}
use Rattle.mdns_history.specs.Sessions.{is_attached, attached_sessions, is_cut, present_txt, operation_request, operations, operations_of}
use Rattle.mdns_history.specs.Groups.{registration_in, registered_count, number_of, group_name, free_number, groups, host_name, unique_records, shared_records, group_records}
use Rattle.mdns_history.specs.Sureness.{probe_moments, tick_moments, is_sure, sure_groups, own_records, is_own}
use Rattle.mdns_history.specs.Claims.{was_probed, claim_marks}
use Rattle.dns_record.specs.Conflicts.{clashes, tie_order, loses_tie, is_stormy}
use Rattle.mdns_history.specs.Probing.{conflict_moments, probe_due, probed_groups}
use Rattle.mdns_history.specs.Announcing.{claim_moment, announcement_moments, announced_groups}
use Rattle.mdns_history.specs.Questions.{keys_of, is_active, active_questions}
use Rattle.mdns_history.specs.Asking.{series_moments, asking_moments, series_due, fresh_matches, is_refresh_due, tick_askings, known_answers, heard_askings}
use Rattle.mdns_history.specs.Debts.{nsec_record, owed_to, multicasts_in, last_multicast, debts_made, is_ours, standing_debts}
use Rattle.mdns_history.specs.Multicasts.{due_multicasts, due_unicasts, released_records}
use Rattle.dns_message.specs.Packing.{pack_query, pack_plain, pack_reply, pack_legacy}
use Rattle.mdns_history.specs.Sending.{tick_sends, sent_goodbyes}
use Rattle.mdns_history.specs.Answers.{answers_over, known_records, answers}
use Rattle.mdns_history.specs.Items.{change_items, served_sessions, given_items, session_items, taken_items, queue, cut_marks}
use Rattle.mdns_history.specs.Outcomes.{call_code, early_outcome}
use Rattle.mdns_history.specs.Due.{is_idle}
use Rattle.mdns_history.specs.Replays.{answer_sets}
use Rattle.mdns_history.specs.Fitting.{next_entry}
use Rattle.mdns_history.specs.InForce.{all_duties, no_duties}

unfoldable pub all_open : ℕ
unfolding folded_eq exact_eq name_cmp is_under encode_with four_text ipv4_text hex_text ipv6_half_text ipv6_text data_eq same rdata_cmp record_cmp matches key_eq key_cmp is_rdata label_at target_at labels_at name_at name_within name_up_to srv_at ns_at nsec_at mx_at soa_at rdata_at record_at question_at all_at sections_at kind_name kind_text data_text record_text spelled offset_of written_name written_question written_data written_record written_all header written_body written service_type is_service_label renamed host_renamed answer_cmp answer_eq next_entry heard_in hearings record_end live_of live_records is_too_full is_attached attached_sessions is_cut present_txt operation_request operations operations_of registration_in registered_count number_of group_name free_number groups host_name unique_records shared_records group_records probe_moments tick_moments is_sure sure_groups own_records is_own clashes tie_order loses_tie was_probed claim_marks conflict_moments is_stormy probe_due probed_groups claim_moment announcement_moments announced_groups keys_of is_active active_questions series_moments asking_moments series_due fresh_matches is_refresh_due tick_askings known_answers heard_askings nsec_record owed_to multicasts_in last_multicast debts_made is_ours standing_debts due_multicasts due_unicasts released_records pack_query pack_plain pack_reply pack_legacy tick_sends sent_goodbyes answers_over known_records answers change_items served_sessions given_items session_items taken_items queue cut_marks call_code early_outcome is_idle answer_sets all_duties no_duties
all_open = 0
