-- Each step of a framed run leaves its states sound.
use Rattle.std.proofs.Common.{◌≡◌, ◌≢◌, ◌⊎◌, ◌<◌, ◌≤◌, inl, inr, ⊎_elim, ℕ, zero, suc, Bool, true, false, List, [], ◌∷◌, ◌++◌, length, refl, sym, ap, ◌∙◌, arith, if◌then◌else◌, ◌&&◌, ◌==◌}
use Rattle.std.proofs.lemmas.Bool.{cases_eq}
use Rattle.std.specs.Option.{option_map_or}
use Rattle.std.specs.Prelude.{None, Option, Some, slice_get, slice_set}
use Rattle.pass_elide_proof.proofs.Aging.{Ages, ages_block, disown_keeps}
use Rattle.pass_elide_proof.proofs.Begins.{no_both}
use Rattle.pass_elide_proof.proofs.Begun.{end_or_before, one_longer}
use Rattle.pass_elide_proof.proofs.Changing.{WasSet, new_there, was_set}
use Rattle.pass_elide_proof.specs.Sound.{IsOwner, IsSoundAct, OwnTheirBlocks}
use Rattle.pass_proofs.proofs.ir_laws.facts.Lists.{get_before, get_last, set_length, set_other}
use Rattle.pass_proofs.proofs.ir_laws.facts.Truth.{either}
use Rattle.pass_proofs.proofs.run_laws.memory.Written.{changed_elsewhere, changed_here, same_some}
use Rattle.pass_proofs.specs.run_framed.Framed.{FramedGiven, is_stack_block}
use Rattle.pass_proofs.specs.run_laws.changed.Changed.{Each}
use Rattle.pass_proofs.specs.run_memory.Memory.{disown, disowned, owned_to, same_kind, with_block}
use Rattle.pass_proofs.specs.run_memory.declared.block.Kind.{Kind}
use Rattle.pass_proofs.specs.run_memory.declared.block.MemoryBlock.{MemoryBlock}
use Rattle.pass_proofs.specs.run_source.Source.{new_instance}
use Rattle.pass_proofs.specs.run_source.State.{is_finished}
use Rattle.pass_proofs.specs.run_source.declared.state.Activation.{Activation}
use Rattle.pass_proofs.specs.run_source.declared.state.Instance.{Instance}
use Rattle.pass_proofs.specs.run_source.declared.state.Status.{Status}

-- ---- instances that go on

-- there are as many or more, and those that there were begin where they began
pub record GoOn (xs ys : List Instance) : Type 0 where
  pub many : length xs ≤ length ys
  pub blocks : (i : ℕ) (y : Instance) → i < length xs → slice_get ys i ≡ Some y
      → (x : Instance) × (slice_get xs i ≡ Some x) × (y.block ≡ x.block) × (y.coroutine ≡ x.coroutine)

pub go_themselves : (xs : List Instance) → GoOn xs xs
go_themselves xs = record { many = le (length xs); blocks = λ i y lt at. (y, at, refl, refl) }
  where
    le : (n : ℕ) → n ≤ n
    le n = omega arith

pub go_set : (xs : List Instance) (i : ℕ) (x new : Instance) → slice_get xs i ≡ Some x → new.block ≡ x.block
    → new.coroutine ≡ x.coroutine → GoOn xs (slice_set xs i new)
go_set xs i x new there same kind = record {
  many = let long = set_length xs i new in omega (arith, long);
  blocks = λ j y lt at. by j y (was_set xs i x new there j y at);
}
  where
    by : (j : ℕ) (y : Instance) → WasSet xs i new j y
        → (z : Instance) × (slice_get xs j ≡ Some z) × (y.block ≡ z.block) × (y.coroutine ≡ z.coroutine)
    by j y was = which was.is
      where
        which : ((j ≡ i) × (y ≡ new)) ⊎ ((j ≢ i) × (y ≡ was.was))
            → (z : Instance) × (slice_get xs j ≡ Some z) × (y.block ≡ z.block) × (y.coroutine ≡ z.coroutine)
        which (inl h) = (
          x,
          ap (slice_get xs) h.0 ∙ there,
          ap (λ (z : Instance). z.block) h.1 ∙ same,
          ap (λ (z : Instance). z.coroutine) h.1 ∙ kind,
        )
        which (inr h) =
            (was.was, was.at, ap (λ (z : Instance). z.block) h.1, ap (λ (z : Instance). z.coroutine) h.1)

pub go_more : (xs : List Instance) (x : Instance) → GoOn xs (xs ++ x ∷ [])
go_more xs x = record {
  many = let long = one_longer xs x in omega (arith, long);
  blocks = λ i y lt at. ⊎_elim (λ h. absurd (past i lt h.0)) (λ h. (y, h, refl, refl)) (end_or_before xs x y i at);
}
  where
    past : (i : ℕ) → i < length xs → i ≡ length xs → ⊥
    past i lt same = omega (arith, lt, same)

-- ---- activations

module _ (g : FramedGiven) (m n : List MemoryBlock) (xs ys : List Instance)
    (stacks : (b : ℕ) → is_stack_block m b ≡ true → is_stack_block n b ≡ true) (goes : GoOn xs ys) where
  pub act_on : (a : Activation) → IsSoundAct g m xs a → IsSoundAct g n ys a
  act_on a h = record {
    known = λ i is. let lt = h.known i is in let le = goes.many in omega (arith, lt, le);
    coroutine = λ i y is at.
        let x = goes.blocks i y (h.known i is) at in x.3 ∙ h.coroutine i x.0 is x.1;
    own = h.own;
    given = λ frame i y mode is at.
        let x = goes.blocks i y (h.known i is) at in
        ap (is_stack_block n) x.2 ∙ stacks x.0.block (h.given frame i x.0 mode is x.1);
  }

  pub acts_on : (bs : List Activation) → Each (IsSoundAct g m xs) bs → Each (IsSoundAct g n ys) bs
  acts_on [] h = tt
  acts_on (a ∷ bs) h = (act_on a h.0, acts_on bs h.1)

-- ---- blocks and their owners

pub blocks_age : (m n : List MemoryBlock) (xs : List Instance) → OwnTheirBlocks m xs → Ages m n → OwnTheirBlocks n xs
blocks_age m n xs h age = record {
  starts = h.starts;
  owners = λ b k z at kind own.
      let old = age.owned b k z at kind own in
      h.owners b old.1 old.0 old.2 old.3 old.4;
}

-- an instance that goes on, or whose block is another one, owns still
still_owns : (xs : List Instance) (i : ℕ) (x new : Instance) (b : ℕ) → slice_get xs i ≡ Some x
    → new.block ≡ x.block → (x.block ≡ b → is_finished x.status ≡ false → is_finished new.status ≡ false)
    → IsOwner xs b → IsOwner (slice_set xs i new) b
still_owns xs i x new b there same goes h = by (either h.number i)
  where
    by : (h.number ≡ i) ⊎ (h.number ≡ i → ⊥) → IsOwner (slice_set xs i new) b
    by (inl is) =
        let one : h.instance ≡ x = same_some h.instance x (sym h.there ∙ (ap (slice_get xs) is ∙ there)) in
        let block : x.block ≡ b = ap (λ (z : Instance). z.block) (sym one) ∙ h.block in
        record {
          number = i;
          instance = new;
          there = new_there xs i x new there;
          block = same ∙ block;
          goes = goes block (ap (λ (z : Instance). is_finished z.status) (sym one) ∙ h.goes);
        }
    by (inr ne) = record {
      number = h.number;
      instance = h.instance;
      there = set_other xs i h.number new (λ is. ne (sym is)) ∙ h.there;
      block = h.block;
      goes = h.goes;
    }

starts_set : (xs : List Instance) (i : ℕ) (x new : Instance) → slice_get xs i ≡ Some x → new.start ≡ x.start
    → ((j : ℕ) (z : Instance) → slice_get xs j ≡ Some z → z.start ≡ 0) → (j : ℕ) (y : Instance)
    → slice_get (slice_set xs i new) j ≡ Some y → y.start ≡ 0
starts_set xs i x new there same starts j y at = by (was_set xs i x new there j y at)
  where
    by : WasSet xs i new j y → y.start ≡ 0
    by was = which was.is
      where
        which : ((j ≡ i) × (y ≡ new)) ⊎ ((j ≢ i) × (y ≡ was.was)) → y.start ≡ 0
        which (inl h) = ap (λ (z : Instance). z.start) h.1 ∙ (same ∙ starts i x there)
        which (inr h) = ap (λ (z : Instance). z.start) h.1 ∙ starts j was.was was.at

pub blocks_set : (m : List MemoryBlock) (xs : List Instance) (i : ℕ) (x new : Instance) → slice_get xs i ≡ Some x
    → new.block ≡ x.block → new.start ≡ x.start
    → (is_finished x.status ≡ false → is_finished new.status ≡ false) → OwnTheirBlocks m xs
    → OwnTheirBlocks m (slice_set xs i new)
blocks_set m xs i x new there block start goes h = record {
  starts = starts_set xs i x new there start h.starts;
  owners = λ b k z at kind own.
      still_owns xs i x new b there block (λ same unfinished. goes unfinished) (h.owners b k z at kind own);
}

-- an instance more, that begins an allocator's block or a stack block
more_owns : (xs : List Instance) (x : Instance) (b : ℕ) → IsOwner xs b → IsOwner (xs ++ x ∷ []) b
more_owns xs x b h = record {
  number = h.number;
  instance = h.instance;
  there = get_before xs (x ∷ []) h.number h.instance h.there;
  block = h.block;
  goes = h.goes;
}

module _ (m : List MemoryBlock) (xs : List Instance) (func b size : ℕ) (h : OwnTheirBlocks m xs) where
  abbrev x : Instance
  x = new_instance func b 0

  pub blocks_begun : OwnTheirBlocks (with_block m b (owned_to size)) (xs ++ x ∷ [])
  blocks_begun = record {
    starts = λ i y at. ⊎_elim (λ last. ap (λ (z : Instance). z.start) last.1) (λ old. h.starts i y old)
        (end_or_before xs x y i at);
    owners = λ c k z at kind own. ⊎_elim
        (λ same. record {
          number = length xs;
          instance = x;
          there = get_last xs x;
          block = sym same;
          goes = refl;
        })
        (λ ne.
        more_owns xs x c
        (h.owners c k z (sym (changed_elsewhere m b c (owned_to size) ne) ∙ at) kind own))
        (cases_eq c b);
  }

-- ---- an instance at its end

module _ (m n : List MemoryBlock) (xs : List Instance) (i : ℕ) (x : Instance) (there : slice_get xs i ≡ Some x)
    (h : OwnTheirBlocks m xs) (age : Ages m n) where
  abbrev done : Instance
  done = record x { status = Status.Finished }

  abbrev after : Bool → List MemoryBlock
  after t = if t then disown n x.block else n

  -- no stack block in which it began is owned
  unowned : (t : Bool) → (is_stack_block n x.block && (x.start == 0)) ≡ t → (k : ℕ) (z : MemoryBlock)
      → slice_get (after t) x.block ≡ Some z → z.kind ≡ Kind.Stack → z.owned ≡ Some k → ⊥
  unowned true is k z at kind own =
      none (slice_get n x.block) refl
    where
      none : (o : Option MemoryBlock) → slice_get n x.block ≡ o → ⊥
      none None eo = absent n x.block eo at
        where
          absent : (l : List MemoryBlock) (b : ℕ) → slice_get l b ≡ None → slice_get (disown l b) b ≡ Some z → ⊥
          absent [] b e f = cc
          absent (y ∷ l) zero e f = cc
          absent (y ∷ l) (suc b) e f = absent l b e f
      none (Some y) eo =
          let same : disowned y ≡ z
          = same_some (disowned y) z (sym (changed_here n x.block disowned y eo) ∙ at) in
          no_some z.owned (ap (λ (u : MemoryBlock). u.owned) (sym same)) own
        where
          no_some : (o : Option ℕ) → o ≡ None → o ≡ Some k → ⊥
          no_some None e f = cc
          no_some (Some j) e f = cc
  unowned false is k z at kind own =
      no_both (is_stack_block n x.block && (x.start == 0)) is
      ((λ j. is_stack_block n x.block && (h.starts i x there j == 0)) ∙ by)
    where
      stack : is_stack_block n x.block ≡ true
      stack =
          ap (λ (o : Option MemoryBlock). option_map_or (λ (y : MemoryBlock). same_kind y.kind Kind.Stack) o false) at
          ∙ ap (λ (q : Kind). same_kind q Kind.Stack) kind

      by : (is_stack_block n x.block && (0 == 0)) ≡ true
      by = λ j. stack j && true

  away : (t : Bool) (c k : ℕ) (z : MemoryBlock) → c ≢ x.block → slice_get (after t) c ≡ Some z → slice_get n c ≡ Some z
  away true c k z ne at = sym (changed_elsewhere n x.block c disowned ne) ∙ at
  away false c k z ne at = at

  pub blocks_finished : (t : Bool) → (is_stack_block n x.block && (x.start == 0)) ≡ t
      → OwnTheirBlocks (after t) (slice_set xs i done)
  blocks_finished t is = record {
    starts = starts_set xs i x done there refl h.starts;
    owners = λ c k z at kind own. ⊎_elim
        (λ same.
        absurd (unowned t is k z (ap (slice_get (after t)) (sym same) ∙ at) kind own))
        (λ ne.
        still_owns xs i x done c there refl (λ block goes. absurd (ne (sym block)))
        ((blocks_age m n xs h age).owners c k z (away t c k z ne at) kind own))
        (cases_eq c x.block);
  }

  pub after_stacks : (t : Bool) (b : ℕ) → is_stack_block m b ≡ true → is_stack_block (after t) b ≡ true
  after_stacks true b is = (ages_block n x.block disowned disown_keeps).stacks b (age.stacks b is)
  after_stacks false b is = age.stacks b is
