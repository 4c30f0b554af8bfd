-- Stack blocks that live stay so where memory changes.
use Rattle.std.proofs.Common.{◌≡◌, ◌≢◌, ◌<◌, ◌++◌, ◌∙◌, ◌∷◌, ◌||◌, ◌&&◌, ◌==◌, [], ap, arith, Bool, Err, false, ⊎_elim, List, length, not, Ok, Option, refl, Result, subst, suc, sym, true, zero, ℕ, if◌then◌else◌}
use Rattle.std.specs.Option.{option_map_or}
use Rattle.std.specs.Prelude.{None, Some, replicate, slice_get}
use Rattle.pass_elide_proof.specs.Callers.{HaveBlocks, KeepsFrames, LivesAt}
use Rattle.pass_proofs.proofs.ir_laws.facts.Lists.{get_before}
use Rattle.pass_proofs.proofs.ir_laws.facts.Truth.{is_number}
use Rattle.pass_proofs.proofs.run_laws.memory.Written.{changed_elsewhere, changed_here}
use Rattle.pass_proofs.specs.ir_base.declared.cause.Cause.{Cause}
use Rattle.pass_proofs.specs.run_framed.Framed.{is_stack_block}
use Rattle.pass_proofs.specs.run_laws.embedded.Refilled.{AreRefilled, IsRefilled}
use Rattle.pass_proofs.specs.run_memory.Memory.{disowned, end, ended, is_killed, is_live, is_owned, is_unkilled, killed, killed_block, owned_to, same_kind, started, with_block}
use Rattle.pass_proofs.specs.run_memory.declared.block.Byte.{Byte}
use Rattle.pass_proofs.specs.run_memory.declared.block.Kind.{Kind}
use Rattle.pass_proofs.specs.run_memory.declared.block.Life.{Life}
use Rattle.pass_proofs.specs.run_memory.declared.block.MemoryBlock.{MemoryBlock}
use Rattle.pass_proofs.specs.run_memory.declared.pointer.Pointer.{Pointer}
use Rattle.pass_proofs.specs.run_memory.declared.pointer.Value.{Value}
use Rattle.pass_proofs.specs.run_source.declared.state.State.{State}
use Rattle.pass_proofs.specs.run_step.Step.{deallocated}

-- ---- what is asked of the new memory

pub record KeepsStacks (m n : List MemoryBlock) : Type 0 where
  pub stacks : (b : ℕ) → is_stack_block n b ≡ true → is_stack_block m b ≡ true
  pub lives : (b : ℕ) → is_stack_block m b ≡ true → LivesAt m b → LivesAt n b

pub stacks_same : (m : List MemoryBlock) → KeepsStacks m m
stacks_same m = record { stacks = λ b is. is; lives = λ b is live. live }

pub stacks_then : (m n k : List MemoryBlock) → ((b : ℕ) → is_stack_block n b ≡ is_stack_block m b) → KeepsStacks m n
    → KeepsStacks n k → KeepsStacks m k
stacks_then m n k same first second = record {
  stacks = λ b is. first.stacks b (second.stacks b is);
  lives = λ b is live. second.lives b (same b ∙ is) (first.lives b is live);
}

-- which frames were given goes by that
either_on : (a b c : Bool) → (a ≡ true → b ≡ true) → (a || c) ≡ true → (b || c) ≡ true
either_on true b c h is = ap (λ (d : Bool). d || c) (h refl)
either_on false true c h is = refl
either_on false false c h is = is

pub frames_kept : (t u : State) → KeepsStacks t.world.memory u.world.memory → KeepsFrames t u
frames_kept t u k = record {
  given = λ number y there given.
      either_on (is_stack_block u.world.memory y.block) (is_stack_block t.world.memory y.block)
      (not (y.start == 0)) (k.stacks y.block) given;
  lives = λ number y there stack going live. k.lives y.block stack live;
}

-- ---- bytes alone change

abbrev in_stack : Option MemoryBlock → Bool
in_stack o = option_map_or (λ x. same_kind x.kind Kind.Stack) o false

pub refilled_keeps : (m n : List MemoryBlock) → AreRefilled m n → KeepsStacks m n
refilled_keeps m n r = record {
  stacks = λ b is. stack (slice_get m b) (slice_get n b) (r.each b) is;
  lives = λ b is live. by b live (slice_get m b) (slice_get n b) refl refl (r.each b);
}
  where
    stack : (o p : Option MemoryBlock) → IsRefilled o p → in_stack p ≡ true → in_stack o ≡ true
    stack None None same is = is
    stack None (Some y) same is = absurd same
    stack (Some x) None same is = absurd same
    stack (Some x) (Some y) same is = ap (λ (z : MemoryBlock). same_kind z.kind Kind.Stack) (sym same) ∙ is

    by : (b : ℕ) → LivesAt m b → (o p : Option MemoryBlock) → slice_get m b ≡ o → slice_get n b ≡ p → IsRefilled o p
        → LivesAt n b
    by b live None p is to same = absurd (let no : None ≡ Some live.0 = sym is ∙ live.1 in cc)
    by b live (Some x) None is to same = absurd same
    by b live (Some x) (Some y) is to same =
        let first : x ≡ live.0 = one x live.0 (sym is ∙ live.1) in (
          y,
          to,
          ap (λ (z : MemoryBlock). is_live z.life) same
              ∙ (ap (λ (z : MemoryBlock). is_live z.life) first ∙ live.2),
        )
      where
        one : (x z : MemoryBlock) → Some x ≡ Some z → x ≡ z
        one x z e = cc

-- ---- one block changes

pub record KeepsLife (f : MemoryBlock → MemoryBlock) : Type 0 where
  pub kind : (x : MemoryBlock) → (f x).kind ≡ x.kind
  pub live : (x : MemoryBlock) → is_live x.life ≡ true → is_live (f x).life ≡ true

pub stack_with : (f : MemoryBlock → MemoryBlock) → ((x : MemoryBlock) → (f x).kind ≡ x.kind) → (m : List MemoryBlock)
    (b c : ℕ) → is_stack_block (with_block m b f) c ≡ is_stack_block m c
stack_with f kind [] b c = refl
stack_with f kind (x ∷ m) zero zero = ap (λ (k : Kind). same_kind k Kind.Stack) (kind x)
stack_with f kind (x ∷ m) zero (suc c) = refl
stack_with f kind (x ∷ m) (suc b) zero = refl
stack_with f kind (x ∷ m) (suc b) (suc c) = stack_with f kind m b c

pub lives_elsewhere : (f : MemoryBlock → MemoryBlock) (m : List MemoryBlock) (b c : ℕ) → c ≢ b → LivesAt m c
    → LivesAt (with_block m b f) c
lives_elsewhere f m b c ne live = (live.0, changed_elsewhere m b c f ne ∙ live.1, live.2)

pub changed_keeps : (f : MemoryBlock → MemoryBlock) (m : List MemoryBlock) (b : ℕ) → KeepsLife f
    → KeepsStacks m (with_block m b f)
changed_keeps f m b k = record {
  stacks = λ c is. sym (stack_with f k.kind m b c) ∙ is;
  lives = λ c is live.
      ⊎_elim
      (λ same. subst (λ (n : ℕ). LivesAt (with_block m n f) c) (sym same)
      (f live.0, changed_here m c f live.0 live.1, k.live live.0 live.2))
      (λ ne. lives_elsewhere f m b c (λ same. ne (sym same)) live) (is_number b c);
}

-- a block that is no stack block changes
pub other_keeps : (f : MemoryBlock → MemoryBlock) (m : List MemoryBlock) (b : ℕ)
    → ((x : MemoryBlock) → (f x).kind ≡ x.kind) → is_stack_block m b ≡ false → KeepsStacks m (with_block m b f)
other_keeps f m b kind none = record {
  stacks = λ c is. sym (stack_with f kind m b c) ∙ is;
  lives = λ c is live.
      ⊎_elim
      (λ same. absurd (yes_no (is_stack_block m b) (ap (is_stack_block m) same ∙ is) none))
      (λ ne. lives_elsewhere f m b c (λ same. ne (sym same)) live) (is_number b c);
}
  where
    yes_no : (p : Bool) → p ≡ true → p ≡ false → ⊥
    yes_no true y n = absurd (cc)
    yes_no false y n = absurd (cc)

pub owned_life : (size : ℕ) → KeepsLife (owned_to size)
owned_life size = record { kind = λ x. refl; live = λ x is. is }

pub disowned_life : KeepsLife disowned
disowned_life = record { kind = λ x. refl; live = λ x is. is }

pub started_life : KeepsLife started
started_life = record {
  kind = λ x. kind_by (is_killed x.life) x;
  live = λ x is. live_by (is_killed x.life) x is;
}
  where
    kind_by : (b : Bool) (x : MemoryBlock)
        → (if b then x else record x { life = Life.Live; bytes = replicate x.size Byte.Undefined }).kind ≡ x.kind
    kind_by true x = refl
    kind_by false x = refl

    live_by : (b : Bool) (x : MemoryBlock) → is_live x.life ≡ true
        → is_live (if b then x else record x { life = Life.Live; bytes = replicate x.size Byte.Undefined }).life
        ≡ true
    live_by true x is = is
    live_by false x is = refl

pub ended_kind : (x : MemoryBlock) → (ended x).kind ≡ x.kind
ended_kind x = by (is_killed x.life)
  where
    by : (b : Bool) → (if b then x else record x { life = Life.Ended }).kind ≡ x.kind
    by true = refl
    by false = refl

-- what a deallocator kills is no stack block
abbrev pub KeptIf : List MemoryBlock → Result (List MemoryBlock) Cause → Type 0
KeptIf m (Err cause) = Unit {0}
KeptIf m (Ok n) = KeepsStacks m n

pub freed_keeps : (m : List MemoryBlock) (p : Value) → KeptIf m (deallocated m p)
freed_keeps m (Value.Ptr Pointer.Null) = stacks_same m
freed_keeps m (Value.Ptr (Pointer.Func f)) = tt
freed_keeps m Value.Poison = tt
freed_keeps m (Value.Int x) = tt
freed_keeps m (Value.Ptr (Pointer.At b o)) = on (o.bits == 0) (slice_get m b) refl (is_owned (slice_get m b))
  where
    no_stack : (k : Kind) → same_kind k Kind.Allocator ≡ true → same_kind k Kind.Stack ≡ false
    no_stack Kind.Allocator is = refl
    no_stack Kind.Stack is = absurd (cc)
    no_stack Kind.Slot is = refl
    no_stack Kind.Global is = refl
    no_stack Kind.Constant is = refl

    apart : (x : MemoryBlock) → slice_get m b ≡ Some x → same_kind x.kind Kind.Allocator ≡ true
        → KeepsStacks m (killed m b)
    apart x there heap =
        other_keeps killed_block m b (λ y. refl)
        (ap (λ (z : Option MemoryBlock). option_map_or (λ y. same_kind y.kind Kind.Stack) z false) there
        ∙ no_stack x.kind heap)

    by : (x : MemoryBlock) → slice_get m b ≡ Some x → (c d f : Bool) → same_kind x.kind Kind.Allocator ≡ c
        → KeptIf m (if not (c && d) then Err Cause.Free else if f then Err Cause.Owned else Ok (killed m b))
    by x there true true true heap = tt
    by x there true true false heap = apart x there heap
    by x there true false f heap = tt
    by x there false d f heap = tt

    on : (t : Bool) (q : Option MemoryBlock) → slice_get m b ≡ q → (f : Bool)
        → KeptIf m (if not (t && is_unkilled Kind.Allocator q) then Err Cause.Free
        else if f then Err Cause.Owned else Ok (killed m b))
    on true None there f = tt
    on true (Some x) there f =
        by x there (same_kind x.kind Kind.Allocator) (not (is_killed x.life)) f refl
    on false q there f = tt

-- ---- a new block

pub lives_before : (m : List MemoryBlock) (x : MemoryBlock) (b : ℕ) → LivesAt m b → LivesAt (m ++ x ∷ []) b
lives_before m x b live = (live.0, get_before m (x ∷ []) b live.0 live.1, live.2)

-- it is no stack block
pub grown_keeps : (m : List MemoryBlock) (x : MemoryBlock) → same_kind x.kind Kind.Stack ≡ false
    → KeepsStacks m (m ++ x ∷ [])
grown_keeps m x none = record { stacks = stack m; lives = λ b is live. lives_before m x b live }
  where
    stack : (m : List MemoryBlock) (b : ℕ) → is_stack_block (m ++ x ∷ []) b ≡ true → is_stack_block m b ≡ true
    stack [] zero is = sym none ∙ is
    stack [] (suc b) is = is
    stack (y ∷ m) zero is = is
    stack (y ∷ m) (suc b) is = stack m b is

-- frames lie in other blocks
pub stack_within : (m : List MemoryBlock) (x : MemoryBlock) (b : ℕ) → b < length m
    → is_stack_block (m ++ x ∷ []) b ≡ is_stack_block m b
stack_within [] x b lt = absurd (omega (arith, lt))
stack_within (y ∷ m) x zero lt = refl
stack_within (y ∷ m) x (suc b) lt = stack_within m x b (omega (arith, lt))

-- ---- a new block, which may start dead

module _ (t : State) (x : MemoryBlock) (blocks : HaveBlocks t) where
  abbrev pub with_new : Bool → List MemoryBlock
  with_new b = if b then end (t.world.memory ++ x ∷ []) (length t.world.memory) else t.world.memory ++ x ∷ []

  stack_still : (b : Bool) (n : ℕ) → n < length t.world.memory
      → is_stack_block (with_new b) n ≡ is_stack_block t.world.memory n
  stack_still true n lt =
      stack_with ended ended_kind (t.world.memory ++ x ∷ []) (length t.world.memory) n
      ∙ stack_within t.world.memory x n lt
  stack_still false n lt = stack_within t.world.memory x n lt

  lives_still : (b : Bool) (n : ℕ) → n < length t.world.memory → LivesAt t.world.memory n → LivesAt (with_new b) n
  lives_still true n lt live =
      lives_elsewhere ended (t.world.memory ++ x ∷ []) (length t.world.memory) n
      (λ same. absurd (omega (arith, same, lt))) (lives_before t.world.memory x n live)
  lives_still false n lt live = lives_before t.world.memory x n live

  pub new_frames : (b : Bool) (u : State) → u.world.memory ≡ with_new b → KeepsFrames t u
  new_frames b u is = record {
    given = λ number y there given.
        (λ j. sym (stack_still b y.block (blocks number y there)) j || not (y.start == 0))
        ∙ ((λ j. is_stack_block (sym is j) y.block || not (y.start == 0)) ∙ given);
    lives = λ number y there stack going live.
        subst (λ (m : List MemoryBlock). LivesAt m y.block) (sym is)
        (lives_still b y.block (blocks number y there) live);
  }
