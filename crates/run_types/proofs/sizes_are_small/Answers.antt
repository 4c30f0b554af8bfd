use Rattle.run_types.proofs.Runs.{sizes_small}
use Rattle.run_types.proofs.sizes_are_small.Goals as goal

pub returns : goal.returns
returns c = λ m f env rules h block at result must_tail ty a args stands takes x e.
    sizes_small m f env rules h block at result must_tail ty a args stands takes x e
