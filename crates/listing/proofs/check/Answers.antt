use Rattle.std.proofs.Common.{refl, sym, ◌∙◌}
use Rattle.std.proofs.lemmas.Result.{err_from_is_err_and}
use Rattle.tables.proofs.CheckLaws.{refusal_not, tables_refused, tables_accepted, accepted_sound}
use Rattle.listing.proofs.ListingLaws.{number_tables, number_nowhere, number_none}
use Rattle.listing.proofs.check.Goals as goal

pub returns-in_err-check_tables : goal.returns-in_err-check_tables
returns-in_err-check_tables c =
    let p = err_from_is_err_and c.from_residual.result c.from_residual.ensures.1 in
    rw (p.1, p.2) (number_tables _ _ _ _ (tables_refused _ _ _ c.in_err-check_tables.ensures) (refusal_not c.in_err-check_tables.field-0.0))

pub is_position-requires : goal.is_position-requires
is_position-requires c = accepted_sound _ _ c.in_ok-check_tables.ensures

pub returns-then-not-is_position : goal.returns-then-not-is_position
returns-then-not-is_position c =
    number_nowhere _ _ _ 0 (tables_accepted _ _ c.in_ok-check_tables.ensures) refl (sym c.is_position.ensures ∙ c.if-not-is_position.true)

pub returns : goal.returns
returns c = number_none _ _ _ 0 (tables_accepted _ _ c.in_ok-check_tables.ensures) refl (sym c.is_position.ensures ∙ c.if-not-is_position.false)
