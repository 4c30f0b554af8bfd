-- What states give of frames: those that are there, and blocks of slots that hold none.
use Rattle.pass_proofs.specs.ir_model.declared.module.Module.{Module}
use Rattle.pass_proofs.specs.run_framed.Framed.{is_given}
use Rattle.pass_proofs.specs.run_memory.Memory.{is_live, same_kind, start, started}
use Rattle.pass_proofs.specs.run_memory.declared.block.Kind.{Kind}
use Rattle.pass_proofs.specs.run_memory.declared.block.MemoryBlock.{MemoryBlock}
use Rattle.pass_proofs.specs.run_source.State.{is_finished, is_suspended}
use Rattle.pass_proofs.specs.run_source.declared.state.Instance.{Instance}
use Rattle.pass_proofs.specs.run_source.declared.state.State.{State}
use Rattle.pass_split_proof.proofs.held.Memory.{started_kind}
use Rattle.pass_split_proof.proofs.states.SameKind.{given_kept}
use Rattle.pass_split_proof.specs.held.Kept.{IsKeptState, IsNoHeap, begins_heap, is_heap_in, is_kept_in}
use Rattle.pass_split_proof.specs.marking.Markers.{HoldsNoFrame}
use Rattle.pass_split_proof.specs.own_blocks.Own.{GivesFrames, IsOwnState}
use Rattle.pass_split_proof.specs.states.Instances.{is_given_in, is_held, is_held_in, lives_in}
use Rattle.std.proofs.Common.{◌≡◌, ℕ, ⊎_elim, Bool, true, false, not, Option, Some, None, refl, sym, ap, ◌∙◌, ◌&&◌, ◌||◌, ◌==◌, ◌⊎◌, inl, inr}
use Rattle.std.proofs.lemmas.Bool.{and_from, and_parts, and_right, eqb-true, false≢true, eq-eqb}
use Rattle.std.specs.Option.{option_map_or}
use Rattle.std.specs.Prelude.{is_some, slice_get}

-- ---- of one frame

-- a block of an allocator is no stack block
no_stack : (o : Option MemoryBlock) → is_heap_in o ≡ true → option_map_or (λ (x : MemoryBlock).
    same_kind x.kind Kind.Stack) o false ≡ false
no_stack None h = refl
no_stack (Some u) h = kinds u.kind h
  where
    kinds : (d : Kind) → same_kind d Kind.Allocator ≡ true → same_kind d Kind.Stack ≡ false
    kinds Kind.Allocator h = refl
    kinds Kind.Stack h = absurd (false≢true h)
    kinds Kind.Slot h = absurd (false≢true h)
    kinds Kind.Global h = absurd (false≢true h)
    kinds Kind.Constant h = absurd (false≢true h)

-- and a frame that begins it wasn't given
pub no_given : (o : Option MemoryBlock) (x : Instance) → (x.start ≡ 0) × (is_heap_in o ≡ true) → is_given_in o
    x ≡ false
no_given o x z = ap (λ (b : Bool). b || not (x.start == 0)) (no_stack o z.1) ∙ ap not (eq-eqb x.start 0 z.0)

pub lives_where_kept : (o : Option MemoryBlock) → is_kept_in o ≡ true → lives_in o ≡ true
lives_where_kept None h = h
lives_where_kept (Some u) h = (and_parts (is_live u.life) (is_some u.owned) h).0

held_by : (o : Option MemoryBlock) (x : Instance) → x.freed ≡ false → (is_given_in o x && is_finished x.status) ≡ false
    → lives_in o ≡ true → is_held_in o x ≡ true
held_by o x unfreed goes lives = and_from (not x.freed) (not (is_given_in o x && is_finished x.status) && lives_in o)
    (ap not unfreed) (and_from (not (is_given_in o x && is_finished x.status)) (lives_in o) (ap not goes) lives)

-- a frame that was given is there no more once its instance is Finished
gone_by : (o : Option MemoryBlock) (x : Instance) → is_given_in o x ≡ true → is_finished x.status ≡ true
    → is_held_in o x ≡ false
gone_by o x given over = and_right (not x.freed) (not (is_given_in o x && is_finished x.status) && lives_in o)
    (ap (λ (t : Bool). not t && lives_in o) (and_from (is_given_in o x) (is_finished x.status) given over))

-- ---- of all

module _ (c : Module) (s : State) (own : IsOwnState c s) where
  -- each frame begins an allocator's block, or was given
  pub given_or : (i : ℕ) (x : Instance) → slice_get s.instances i ≡ Some x
      → ((x.start ≡ 0) × (is_heap_in (slice_get s.world.memory x.block) ≡ true)) ⊎ (is_given s.world.memory x ≡ true)
  given_or i x e = ⊎_elim inl (λ p. inr p.1) (own.instances i x e).begins

  -- a frame that isn't freed is there, if its instance isn't Finished where it was given
  pub unfreed_held : IsKeptState s
      → ((i : ℕ) (x : Instance) → slice_get s.instances i ≡ Some x → begins_heap s.world.memory x ≡ false
      → is_finished x.status ≡ false → lives_in (slice_get s.world.memory x.block) ≡ true)
      → (i : ℕ) (x : Instance) → slice_get s.instances i ≡ Some x → x.freed ≡ false
      → (is_given s.world.memory x ≡ true → is_finished x.status ≡ false) → is_held s.world.memory x ≡ true
  unfreed_held kept live i x e unfreed goes = ⊎_elim
      (λ z. held_by (slice_get s.world.memory x.block) x unfreed
      (ap (λ (b : Bool). b && is_finished x.status) (no_given (slice_get s.world.memory x.block) x z))
      (lives_where_kept (slice_get s.world.memory x.block) (kept.instances.kept i x e unfreed z.0 z.1)))
      (λ given. held_by (slice_get s.world.memory x.block) x unfreed
      (and_right (is_given_in (slice_get s.world.memory x.block) x) (is_finished x.status) (goes given))
      (lives (begins_heap s.world.memory x) refl (goes given)))
      (given_or i x e)
    where
      lives : (t : Bool) → begins_heap s.world.memory x ≡ t → is_finished x.status ≡ false
          → lives_in (slice_get s.world.memory x.block) ≡ true
      lives true h goes =
          let p = and_parts (is_heap_in (slice_get s.world.memory x.block)) (x.start == 0) h in
          lives_where_kept (slice_get s.world.memory x.block) (kept.instances.kept i x e unfreed
          (eqb-true x.start 0 p.1) p.0)
      lives false h goes = live i x e h goes

  -- a block that starts holds none, if it is no allocator's and the instances in it are Finished
  pub starts_none : (b : ℕ) → IsNoHeap s.world.memory b
      → ((i : ℕ) (x : Instance) → slice_get s.instances i ≡ Some x → x.block ≡ b → is_finished x.status ≡ true)
      → HoldsNoFrame s.instances s.world.memory b
  starts_none b none over = record {
    heap = λ y e kind. false≢true (sym none.is ∙ ap is_heap_in e ∙ ap (λ (k : Kind). same_kind k Kind.Allocator) kind);
    free = λ i x e same. gone_by (slice_get (start s.world.memory b) x.block) x (given i x e same) (over i x e same);
  }
    where
      given : (i : ℕ) (x : Instance) → slice_get s.instances i ≡ Some x → x.block ≡ b
          → is_given_in (slice_get (start s.world.memory b) x.block) x ≡ true
      given i x e same = given_kept started started_kind s.world.memory b x.block x ∙ ⊎_elim
          (λ z. absurd (false≢true (sym none.is ∙ ap (λ (a : ℕ). is_heap_in (slice_get s.world.memory a)) (sym same)
          ∙ z.1)))
          (λ was. was)
          (given_or i x e)

-- ---- where no call gives a frame

module _ (c : Module) (s : State) (own : IsOwnState c s) (never : GivesFrames c → ⊥) where
  -- each frame begins an allocator's block
  pub alone : (i : ℕ) (x : Instance) → slice_get s.instances i ≡ Some x
      → (x.start ≡ 0) × (is_heap_in (slice_get s.world.memory x.block) ≡ true)
  alone i x e = ⊎_elim (λ p. p) (λ p. absurd (never p.0)) (own.instances i x e).begins

  -- no frame was given
  pub not_given : (i : ℕ) (x : Instance) → slice_get s.instances i ≡ Some x → is_given s.world.memory x ≡ false
  not_given i x e = no_given (slice_get s.world.memory x.block) x (alone i x e)

  pub suspended_held : IsKeptState s → (i : ℕ) (x : Instance) → slice_get s.instances i ≡ Some x
      → is_suspended x.status ≡ true → is_held s.world.memory x ≡ true
  suspended_held kept i x e sleeps =
      let z = alone i x e in
      let o = slice_get s.world.memory x.block in
      let unfreed = kept.instances.unfreed i x e sleeps in
      held_by o x unfreed (ap (λ (b : Bool). b && is_finished x.status) (no_given o x z))
      (lives_where_kept o (kept.instances.kept i x e unfreed z.0 z.1))
