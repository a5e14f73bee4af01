-- The names that the laws of the cut share.
pub use Rattle.rules.proofs.Theorem.{BLANK, Bool, CLEAN, CLEAN-HEADER, CONFLICT, Compare, DANGLING, Destroy, Distinct, Done, EMPTY, Enough, Exists, Fill, Final, FitReserve, FitStep, FitTables, Grow, GrowTo, HOLE, HeaderClass, Hole, KEPT, List, MULTIPLE, Make, Makes, MdtFid, Means, Names, NewParent, NoWay, Nothing, ORPHAN, OWNER, Object, ObjectClass, ObjectRow, OfBlank, OfEmpty, OfOwner, OfUnmatched, OfWrongOst, OstFid, Own, Owner, ParentRow, Place, Position, PutObject, PutSlot, Ready, Repair, Run, SELF, SPARE, Settings, Slot, SlotClass, Split, Stand, Step, Stepped, Tables, Take, UNMATCHED, UNUSED, UNUSED-PARENT, WRONG-OST, Way, Write, [], ◌&&◌, ◌++◌, ◌+◌, ◌-◌, ◌<◌, ◌∙◌, ◌∷◌, ◌≡◌, ◌≤◌, ◌≼◌, ◌⊎◌, and_both, and_l, and_r, ap, ap₂, arith, at_a_stop, at_end_lem, at_the_end, before, before_not_end, by_found, by_order, by_row, by_stage, claim_here, claim_others, clash, compareℕ, cond, dec_lt, done_start, else_intro, end_is_end, eq-eqb, eqb, false, fill_order, final_same, first_below, first_none, first_only, first_unique, fit_write, fit_writes, found, free_object_lem, from_part, from_row, from_stage, get_or, get_or-set_other, get_or-set_same, grow_order, grown_is, grows_exists, grows_put, grows_slot, header_absent, header_slot, holes_get_d, in_object, in_parent, index_to_slot, inl, inr, is_end_lem, is_exists, is_here, is_less, is_more, is_place_lem, is_same, keeper_names, keeper_own, left_next, left_start, length, length-set, lt-ltb, ltb, max_slots, mend_none, mend_order, named_elim, named_for, named_inside, named_none, names_other, never, next_exists, next_later, next_least, none_at_all, not, object_first, object_found, object_frame, object_inside, object_others, one_fid, one_name, one_parent_slot, one_put, orphan_means, ost_true, own_slots, owner_longer, owner_refl, owner_slot, owner_write_lem, pad_get_d, parent_inside, parent_self, place_of, put_found, quiet_rests, ready_fill, ready_grow, refl, repairs, replicate, rests, reusable_first, reusable_means, reusable_passes, row_of_frame, row_same, row_there, run_enough, run_fits, run_makes, run_then, same_self, self_slot, set, set_comm, set_pointwise, settle_here, settle_row, settled_clean, settled_others, slot_absent, slot_others, slot_same, split, stand, start_exists, start_least, step_done, step_fits, step_makes, stops, subst, suc, sym, take_else, take_fresh, take_order, there, to_a_stop, to_fill, to_grow, to_make, to_take, to_the_end, true, twice, uncut_run, unused, usable_free, used, way_means, width_slot, zero, ℕ, ℕ_discrete, ≼_refl, ≼_trans}
unfoldable pub use Rattle.rules.proofs.Theorem.{Ended, adopt, adopt_by, adopts, after, apply_write, apply_writes, changed, claim_class, claim_in, claimed_class, claims, count_steps, creates, destroy_at, destroy_named, destroyed, free_object, free_parent, from_object, grown, halt, has_fid, header_class, header_quiet, holes_in, index_write, is_end, is_object, is_parent, is_place, is_position, is_reusable, is_unused, is_way, keeper, keeper_class, longer, made, make_object, make_parent, mend_at, mend_object, mend_write, mended, named, named_else, names_at, new_object, next, object_at, object_class, object_class_of, object_in, object_in_row, object_of, object_row, object_step, on_step, owner_of, owner_write, parent_row, part_step, place, put_object, put_parent, put_slot, quiet_at, quiet_part, quiet_slot, redirect, redirect_by, redirect_to, repair_header, repair_object, repair_slot, restriped, reusable, reuse, row_at, row_way, run, same_fid, same_owner, same_place, scan, self_of, settled, slot_at, slot_class, slot_class_of, slot_for, slot_names, slot_step, slot_way, slots_of, start, step_at, steps_left, tail_of, takeable, then, uncut, unnamed_class, usable, way, width, with_claim, with_owner, with_slot, with_slots}
pub use Rattle.rules.specs.declared.Repair.TheVariants.{OfSelf, OfMultiple, OfDangling, OfOrphan}
pub use Rattle.rules.specs.Cuts.{Reused, Redirects, CutMended, Target, object_record, destroyed_record, parent_record, LayoutFirst, placed_alone, placed_owned, placed_emptied, placed_both, ObjectFirst, object_alone, destroyed_alone, layout_alone, object_layout}
unfoldable pub use Rattle.rules.specs.Cuts.{Changes, EachChanges, target, targets, OrderFor, InOrder, first_writes, cut_step, cut_tables, CutsMended}
