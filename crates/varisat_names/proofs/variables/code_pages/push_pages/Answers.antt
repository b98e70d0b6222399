use Rattle.std.proofs.Common.{◌∙◌, map}
use Rattle.varisat_names.proofs.CodePages.{pushed}
use Rattle.varisat_names.proofs.variables.code_pages.push_pages.Goals as goal

pub loop-pages-preserved : goal.loop-pages-preserved
loop-pages-preserved g c p =
    pushed (map (λ v. v.items) c.loop-pages.pages.items) (map (λ v. v.items) c.push_page.new.pages.items) (c.in_ok-push_page.ensures {u = tt}).pushed p
    ∙ c.loop-pages.invariant p
