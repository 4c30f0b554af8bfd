-- Lemmas on names.
use Rattle.std.proofs.Common.{ℕ, zero, suc, refl}
use Rattle.std.specs.Prelude.{codes}
use Rattle.pass_copies.specs.Slots.{early_name, names_of_slot, slot_names, where_name}
use Rattle.pass_edges_proof.specs.text_names.Spelling.{IsName}
use Rattle.pass_edges_proof.specs.run_laws.changed.Changed.{Each}
use Rattle.pass_edges_proof.proofs.ir_laws.facts.Lists.{numbered_named}
use Rattle.pass_edges_proof.proofs.ir_laws.facts.Members.{joined_names}

early_one_named : (k : ℕ) → IsName (early_name k)
unfolding early_name
early_one_named k = numbered_named (codes "$c.early.") k refl

where_one_named : (k : ℕ) → IsName (where_name k)
unfolding where_name
where_one_named k = numbered_named (codes "$c.where.") k refl

pub slots_named : (k : ℕ) → Each IsName (slot_names k)
slots_named zero = tt
slots_named (suc k) = joined_names (slot_names k) (names_of_slot k) (slots_named k) (early_one_named k, (where_one_named k, tt))
