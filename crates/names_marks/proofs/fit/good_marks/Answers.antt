use Rattle.std.proofs.Common.{rules, lit<, ◌∙◌, sym}
use Rattle.std.proofs.lemmas.Iterator.{YieldsList-from_slice, YieldsList-from_zip, YieldsList-from_map}
use Rattle.std.proofs.lemmas.Iterator.Consumers.{YieldsList-at}
use Rattle.std.proofs.lemmas.Iterator.Search.{all_from_yields_List}
use Rattle.wire.proofs.ChunkLaws.{chunk_rows}
use Rattle.wire.proofs.RowLaws.{rows_length}
use Rattle.names.specs.Rows.{child_size, parse_children, child_rows}
use Rattle.names.proofs.SoundLaws.{parsed_children}
use Rattle.names_marks.proofs.FitLaws.{other_count, fit_pairs, fit_pair, self_in}
use Rattle.names_marks.proofs.fit.good_marks.Goals as goal

pub returns-then-marks-children : goal.returns-then-marks-children
unfolding child_rows parse_children
returns-then-marks-children c =
    let a = c.args in
    all_from_yields_List fit_pair c.all.new.self _ c.all.result c.all.ensures.ran
    (YieldsList-from_zip (YieldsList-at c.zip.ensures.first (YieldsList-from_slice a.marks.now c.iter.ensures.rest)) (YieldsList-at c.zip.ensures.second (YieldsList-from_map _ self_in (YieldsList-at c.map-selves.ensures.source (chunk_rows child_size a.children.now (lit< tt) c.chunks_exact.ensures.rest c.chunks_exact.ensures.size)) c.map-selves.ensures.closure (λ x r q k. search rules))))
    (λ x b q k. search rules)
    ∙ fit_pairs a.marks.now (child_rows a.children.now) (c.if-marks-children.true ∙ sym (rows_length child_size _ a.children.now))

pub returns-else-marks-children : goal.returns-else-marks-children
returns-else-marks-children c =
    let a = c.args in
    other_count a.marks.now (parse_children a.children.now) _ (parsed_children a.children.now) c.if-marks-children.false
