-- Lemmas on split.
use Rattle.std.proofs.Common.{List, [], ◌∷◌}
use Rattle.std.specs.Prelude.{map}
use Rattle.pass_cleanup.specs.Cleanup.{clean_function}
use Rattle.ir_model.specs.declared.module.Function.{Function}
use Rattle.pass_proofs.specs.run_laws.changed.Changed.{Each}
use Rattle.pass_proofs.proofs.split.names_apart.Split.{IsApart}

pub clean_apart : (fs : List Function) → Each IsApart fs → Each IsApart (map clean_function fs)
clean_apart [] h = tt
clean_apart (f ∷ fs) h = (h.0, clean_apart fs h.1)
