-- Lemmas on types.
use Rattle.std.proofs.Common.{◌≡◌, true, refl}
use Rattle.ir_model.specs.Layout.{bytes_of_width}
use Rattle.ir_model.specs.Ty.{Ty, int, ptr}
use Rattle.pass_edges_proof.specs.rule_locals.Extents.{is_aligned}
use Rattle.pass_edges_proof.specs.pass_fetch.Fetching.{value_bytes}
use Rattle.pass_edges_proof.proofs.rule_laws.rules.counted.Types.{is_cell_type, width_cases}

-- ---- what holds of such a type

pub cell_aligned : (t : Ty) → is_cell_type t ≡ true → is_aligned (value_bytes t) ≡ true
cell_aligned (int w) h = width_cases (λ n. is_aligned (bytes_of_width n) ≡ true) refl refl refl refl refl w h
cell_aligned ptr h = refl
cell_aligned _ h = absurd (cc)
