-- Lemmas on names.
use Rattle.std.proofs.Common.{ℕ, ◌+◌, List, ◌++◌, refl}
use Rattle.std.specs.Prelude.{codes}
use Rattle.pass_edges_proof.specs.ir_base.declared.name.Name.{Name}
use Rattle.pass_edges_proof.specs.text_names.Spelling.{IsName}
use Rattle.pass_edges_proof.specs.run_laws.changed.Changed.{Each}
use Rattle.pass_edges_proof.specs.pass_fetch.Blocks.{numbered_names}
use Rattle.pass_edges_proof.specs.pass_cells.Cells.{with_own_names}
use Rattle.pass_edges_proof.proofs.ir_laws.facts.Members.{joined_names}
use Rattle.pass_fetch_proof.proofs.fetch.spelled.Names.{all_numbered}

pub own_named : (names : List Name) (count links : ℕ) → Each IsName names → Each IsName (with_own_names names count links)
own_named names count links h =
    let cells : List Name = names ++ numbered_names (codes "$c.cell.") count in
    let fields : List Name = cells ++ numbered_names (codes "$c.field.") count in
    let distances : List Name = fields ++ numbered_names (codes "$c.distance.") count in
    joined_names distances (numbered_names (codes "$c.link.") links)
    (joined_names fields (numbered_names (codes "$c.distance.") count)
    (joined_names cells (numbered_names (codes "$c.field.") count) (joined_names names (numbered_names (codes "$c.cell.") count) h (all_numbered (codes "$c.cell.") count refl)) (all_numbered (codes "$c.field.") count refl))
    (all_numbered (codes "$c.distance.") count refl))
    (all_numbered (codes "$c.link.") links refl)
