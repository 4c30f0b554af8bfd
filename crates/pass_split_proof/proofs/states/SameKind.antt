-- Where a block becomes another of its kind, frames that were given are those that were.
use Rattle.std.proofs.Common.{◌≡◌, ℕ, zero, suc, List, [], ◌∷◌, refl, ap, ◌||◌, ◌==◌}
use Rattle.std.specs.Prelude.{not, slice_get}
use Rattle.pass_split_proof.specs.states.Instances.{is_given_in}
use Rattle.pass_proofs.specs.run_memory.Memory.{same_kind, with_block}
use Rattle.pass_proofs.specs.run_memory.declared.block.Kind.{Kind}
use Rattle.pass_proofs.specs.run_memory.declared.block.MemoryBlock.{MemoryBlock}
use Rattle.pass_proofs.specs.run_source.declared.state.Instance.{Instance}

pub given_kept : (f : MemoryBlock → MemoryBlock) → ((y : MemoryBlock) → (f y).kind ≡ y.kind) → (m : List MemoryBlock)
    (b c : ℕ) (z : Instance) → is_given_in (slice_get (with_block m b f) c) z ≡ is_given_in (slice_get m c) z
given_kept f kind [] b c z = refl
given_kept f kind (u ∷ m) zero zero z = ap (λ (k : Kind). same_kind k Kind.Stack || not (z.start == 0)) (kind u)
given_kept f kind (u ∷ m) zero (suc c) z = refl
given_kept f kind (u ∷ m) (suc b) zero z = refl
given_kept f kind (u ∷ m) (suc b) (suc c) z = given_kept f kind m b c z
