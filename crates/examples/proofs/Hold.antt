-- The examples hold: by computation over the rows that the cases give, none of which is walked past its layout.
use mathlib.Core.Path.{◌≡◌, refl}
use Prim.Native.Nat.{ℕ}
use mathlib.Core.Bool.{true}
use mathlib.Core.List.{List}
use lib.ListN.{length}
use Rattle.examples.specs.Cases.{fid, P, Q, A, B, C, N, us, root, on, layout_of, says_of, file_at, file, no_file, filled, parent_table, object, holds, fresh, free, case, seen, go, test, is, true_is, came, ends, rests, slot_numbers_of, class, object_is, keeps, none, one_self, one_multiple, one_dangling, one_blank, one_unmatched, one_owner, one_empty, one_orphan, two_orphans, made_and_taken, two_wrong_ost, claim, E4-parents, E5-objects, spare, E4, E5, E6, E7-parents, E7, E7-created, E8-objects, E8, E9, E10, E11-parents, E11, E12, E13, own_wrong, blank, other_owner, emptied, exchanged, blank_elsewhere, unmatched_elsewhere, mended_elsewhere, last_generation_lem, made_then_grown, shared_parents, two_spare, shared, shared_cut, reused, named_elsewhere, with_data, other_slot, contested, contested_cut, leaves, fills, unfound, looks, E2, sized, bare, sizes, answers, layouts, example, examples, tests, Hold}
use Rattle.wire.specs.Numbers.{le, bytes}
use Rattle.wire.specs.Rows.{rows}
use Rattle.fid.specs.Fid.{good_object as good_object_fid, good_fid, good_number, good_sequence, decode_fid, encode_fid, same_fid, zero_fid, good_file, good_reserve}
use Rattle.layout.specs.Slot.{allowed_slot, allowed_slots, zero_slot, slot_from as slot_of_numbers, decode_slot, encode_slot, decode_slots, encode_slots, slot_names, same_slot, same_slots}
use Rattle.layout.specs.Layout.{known_version, known_pattern, possible_stripe, good_header, few_slots, exact_length, layout_rules, accepted_layout, header_size, decode_header, stripe_count, encode_header, slot_start, decode_layout, encode_layout, with_holes, layout_size, next_generation, at_generation, generation_with, restriped, changed}
use Rattle.layout.specs.Answers.{read_layout, read_number, read_slot, slot_read_number, rewrite_answer}
use Rattle.tables.specs.Bytes.{is_used, decode_owner, encode_owner, layout_length, layout_bytes, decode_parent, encode_parent, parse_parent, render_parent, claim_from, claim_fid, decode_object, mark, encode_object, parse_object, render_object, object_rows, join, render_parents, render_objects, self_fid, parse_row, render_row, claimed_fid, reserve_entries, reserve_fid, parse_reserve, parse_objects}
use Rattle.tables.specs.Positions.{slots_of, row_at, width, in_stage_one, in_stage_two, is_position, is_end, place, from_object, from_parent, start, after_part, next, row_steps, count_steps}
use Rattle.tables.specs.Check.{all, good_object, has_self, none_twice, first_failing, is_row_of, objects_whole, reserve_whole, whole_rows, used_mark, fresh_mark, is_mark, when_used, good_policy, good_layout, good_parent, good_index, good_claim, fresh_claims, good_entry}
use Rattle.rules.specs.Search.{row_from, slot_from, place_from, or_else, is_somewhere, is_row}
use Rattle.rules.specs.Rows.{self_of, owner_of, tail_of, generation_in, holes_in, is_parent, parent_row, free_parent, slot_at, names_at, scan, named, names_else, named_else, object_at, is_object, object_row, free_object, object_in, object_in_row, object_of, same_owner, is_unused, has_fid, first_row}
use Rattle.rules.specs.Keeper.{claim_in, claims_parent, in_claimed, at_claimed, keeper_by, keeper, is_place, claims_slot}
use Rattle.rules.specs.Compared.{up_to, hit, in_turn, all_slots, cases_in, cases, compared_by, compared}
use Rattle.rules.specs.Places.{takeable, slot_way, row_way, way, is_way, same_place, claims}
use Rattle.rules.specs.Classes.{own_right, header_class, claimed_class, claim_class, keeper_class, slot_class_of, slot_class, unnamed_class, object_class_of, object_class, only, header_numbers, slot_numbers, object_numbers}
use Rattle.rules.specs.Repairs.{put_parent, put_object, apply_write, apply_writes, with_slots, with_slot, own_header, with_own, with_owner, with_claim, destroyed, repair_header, new_object, usable, redirect_to, redirect, is_reusable, reusable, reuse, redirect_by, make_object, repair_slot, slot_for, owner_write, made, grown, make_parent, destroy_at, destroy_named, adopt_by, adopt, repair_object, mend_object, mend_at, mended, mend_write, index_write}
use Rattle.rules.specs.Steps.{slot_step, part_step, object_step, step_at}
use Rattle.rules.specs.Runs.{repair_number, no_counts, count_of, sums, add_counts, halt, after, on_step, run}
use Rattle.rules.specs.Settings.{creates, adopts, settings_of}
use Rattle.examples.proofs.SeenLaws.{number_by, row_tables, rows_seen, fits, short, all_fit, tests_are}

pub layouts_hold : Hold layouts
unfolding Hold layouts test is E2 sized bare sizes answers fid P A B on layout_of le bytes decode_fid encode_fid same_fid zero_fid zero_slot slot_of_numbers decode_slot encode_slot decode_slots encode_slots header_size decode_header stripe_count encode_header slot_start decode_layout encode_layout with_holes layout_size slot_numbers_of read_layout read_number read_slot slot_read_number rewrite_answer accepted_layout exact_length layout_rules known_version known_pattern possible_stripe good_header few_slots allowed_slot allowed_slots good_fid good_number good_sequence good_object_fid
layouts_hold = refl

all_fit_lem : all_fit examples ≡ true
unfolding all_fit fits short all example examples case layout_of says_of file_at file no_file fid P Q A B C us on encode_fid bytes encode_slots encode_slot zero_slot E4-parents E4 E5 E6 E7-parents E7 E7-created E8 E9 E10 E11-parents E11 E12 E13 own_wrong blank other_owner emptied exchanged blank_elsewhere unmatched_elsewhere last_generation_lem made_then_grown shared_parents two_spare shared shared_cut reused named_elsewhere with_data other_slot contested contested_cut unfound
all_fit_lem = refl

by_rows : (past : ℕ → List ℕ) → Hold (tests (rows_seen past) examples)
unfolding Hold fid P Q A B C N us root on layout_of says_of file_at file no_file object holds fresh free case go came ends rests object_is none one_self one_multiple one_dangling one_blank one_unmatched one_owner one_empty one_orphan two_orphans made_and_taken two_wrong_ost claim E4-parents E5-objects spare E4 E5 E6 E7-parents E7 E7-created E8-objects E8 E9 E10 E11-parents E11 E12 E13 own_wrong blank other_owner emptied exchanged blank_elsewhere unmatched_elsewhere mended_elsewhere last_generation_lem made_then_grown shared_parents two_spare shared shared_cut reused named_elsewhere with_data other_slot contested contested_cut generation_in leaves unfound looks examples all le bytes rows decode_fid encode_fid same_fid zero_fid zero_slot slot_of_numbers decode_slot encode_slot decode_slots encode_slots slot_names header_size decode_header stripe_count encode_header slot_start decode_layout encode_layout with_holes layout_size is_used decode_owner encode_owner layout_length layout_bytes decode_parent encode_parent parse_parent render_parent claim_from claim_fid decode_object mark encode_object parse_object render_object object_rows parse_objects join render_parents render_objects slots_of row_at width is_end place from_object from_parent start after_part next row_steps count_steps row_from slot_from place_from or_else self_of owner_of tail_of holes_in is_unused is_parent parent_row free_parent slot_at names_at scan named names_else named_else object_at is_object object_row free_object object_in object_in_row object_of same_owner claim_in claims_parent claims_slot in_claimed at_claimed keeper_by keeper is_place up_to hit in_turn all_slots cases_in cases compared_by compared same_place claims takeable slot_way row_way way is_way own_right header_class claimed_class claim_class keeper_class slot_class_of slot_class unnamed_class object_class_of object_class only header_numbers slot_numbers object_numbers put_parent put_object apply_write apply_writes creates adopts with_slots with_slot own_header with_own with_owner with_claim destroyed repair_header new_object usable redirect_to redirect is_reusable reusable reuse redirect_by make_object mend_object mend_at mended mend_write index_write repair_slot slot_for owner_write made grown make_parent destroy_at destroy_named adopt_by adopt repair_object slot_step part_step object_step step_at repair_number no_counts count_of sums add_counts halt after on_step run accepted_layout exact_length layout_rules known_version known_pattern possible_stripe good_header few_slots allowed_slot allowed_slots good_fid good_number good_sequence parse_row render_row has_fid first_row settings_of first_failing is_row_of objects_whole reserve_whole whole_rows used_mark fresh_mark is_mark when_used good_policy good_layout good_parent good_file good_reserve reserve_fid good_index good_claim fresh_claims claimed_fid good_entry reserve_entries parse_reserve none_twice has_self is_position in_stage_one in_stage_two self_fid good_object changed good_object_fid same_slot same_slots next_generation at_generation generation_with restriped class filled test is true_is keeps fills example tests rows_seen row_tables number_by parent_table
by_rows past = refl

-- whatever stands past the layouts
pub examples_hold : (past : ℕ → List ℕ) → ((n : ℕ) → length (past n) ≡ n) → Hold (tests (seen past) examples)
examples_hold past long = rw (tests_are past long examples all_fit_lem) (by_rows past)
