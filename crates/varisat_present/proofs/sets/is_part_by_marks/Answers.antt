use Rattle.varisat_present.proofs.MarkedLists.{within_marked}
use Rattle.varisat_present.proofs.sets.is_part_by_marks.Goals as goal

pub returns : goal.returns
returns g c =
    let (there, back) = within_marked c.args.part.now c.args.list.now c.mark_all.new.marks c.in_ok-mark_all.ensures in
    ((λ t. there (c.are_marked.ensures.0 t)), (λ h. c.are_marked.ensures.1 (back h)))
