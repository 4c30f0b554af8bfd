-- Twins stay twins where what their bytes hold changes.
use Rattle.std.proofs.Common.{◌≡◌, ◌<◌, ◌^◌, List, length, Option, Some, None, sym, ap, ◌∙◌, subst}
use Rattle.std.specs.Prelude.{slice_get}
use Rattle.pass_split_proof.specs.states.Memories.{AreTwins, AreTwinsAt, IsTwin, LivesAs, plain_kind}
use Rattle.pass_proofs.proofs.run_laws.access.Reading.{as_many}
use Rattle.pass_proofs.specs.run_laws.access.Changed.{WritesOnly}
use Rattle.pass_proofs.specs.run_laws.access.Accessed.{Span}
use Rattle.pass_proofs.specs.run_laws.embedded.Refilled.{IsRefilled}
use Rattle.pass_proofs.specs.run_memory.Memory.{bytes_in, is_killed}
use Rattle.pass_proofs.specs.run_memory.declared.block.Byte.{Byte}
use Rattle.pass_proofs.specs.run_memory.declared.block.Life.{Life}
use Rattle.pass_proofs.specs.run_memory.declared.block.MemoryBlock.{MemoryBlock}

-- the plain block of a block, with this life and these bytes
abbrev plain_with : Life → List Byte → MemoryBlock → MemoryBlock
plain_with life bytes x = record x { kind = plain_kind x.kind; life = life; owned = None; bytes = bytes }

abbrev with_these : List Byte → MemoryBlock → MemoryBlock
with_these bytes x = record x { bytes = bytes }

pub refilled_twin : (x y u v : MemoryBlock) → IsTwin x y → u ≡ record x { bytes = u.bytes }
    → v ≡ record y { bytes = v.bytes } → length u.bytes ≡ length x.bytes → length v.bytes ≡ length y.bytes → IsTwin u v
refilled_twin x y u v t is_u is_v long_u long_v = record {
  is = is_v ∙ ap (with_these v.bytes) t.is ∙ sym (ap (plain_with y.life v.bytes) is_u)
      ∙ ap (λ (l : Life). plain_with l v.bytes u) (sym life_v);
  life = subst (λ (p : Life × Life). LivesAs p.0 p.1) (λ j. (sym life_u j, sym life_v j)) t.life;
  long = long_v ∙ t.long ∙ sym long_u;
  full = λ left. long_u ∙ t.full (sym (ap is_killed life_u) ∙ left)
      ∙ sym (ap (λ (z : MemoryBlock). z.size) is_u);
  small = subst (λ (z : MemoryBlock). z.size < 2 ^ 64) (sym is_u) t.small;
  sixteen = λ e. ap (λ (z : MemoryBlock). z.align) is_u ∙ t.sixteen (sym (ap (λ (z : MemoryBlock). z.kind) is_u) ∙ e);
}
  where
    life_u : u.life ≡ x.life
    life_u = ap (λ (z : MemoryBlock). z.life) is_u

    life_v : v.life ≡ y.life
    life_v = ap (λ (z : MemoryBlock). z.life) is_v

refilled_twins_at : (a b c d : Option MemoryBlock) → AreTwinsAt a b → IsRefilled a c → IsRefilled b d
    → length (bytes_in c) ≡ length (bytes_in a) → length (bytes_in d) ≡ length (bytes_in b) → AreTwinsAt c d
refilled_twins_at None None None None t r q e f = tt
refilled_twins_at None None None (Some v) t r q e f = absurd q
refilled_twins_at None None (Some u) d t r q e f = absurd r
refilled_twins_at None (Some y) c d t r q e f = absurd t
refilled_twins_at (Some x) None c d t r q e f = absurd t
refilled_twins_at (Some x) (Some y) None d t r q e f = absurd r
refilled_twins_at (Some x) (Some y) (Some u) None t r q e f = absurd q
refilled_twins_at (Some x) (Some y) (Some u) (Some v) t r q e f = refilled_twin x y u v t r q e f

-- both memories are written into
pub written_twins : (m n k l : List MemoryBlock) (spans others : List Span) → AreTwins m n → WritesOnly spans m k
    → WritesOnly others n l → AreTwins k l
written_twins m n k l spans others t a b = record {
  each = λ i. refilled_twins_at (slice_get m i) (slice_get n i) (slice_get k i) (slice_get l i) (t.each i)
      (a.refilled.each i) (b.refilled.each i) (a.lengths i) (b.lengths i);
  long = as_many n l b.refilled ∙ t.long ∙ sym (as_many m k a.refilled);
}
