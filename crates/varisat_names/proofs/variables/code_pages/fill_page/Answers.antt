use Rattle.std.proofs.Common.{◌-◌, arith}
use Rattle.varisat_theory.proofs.clauses.Padded.{resized}
use Rattle.varisat_names.proofs.variables.code_pages.fill_page.Goals as goal

pub returns-in_ok-resize-clause-same : goal.returns-in_ok-resize-clause-same
returns-in_ok-resize-clause-same g c = resized 0x8000_0000 c.args.page.now.items c.resize.new.self.items 1024 (1024 - c.args.page.now.len)
    (omega arith) (c.in_ok-resize.ensures {u = tt}).items
