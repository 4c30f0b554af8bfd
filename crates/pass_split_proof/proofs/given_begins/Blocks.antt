-- A stack block has room for the frame of a coroutine where it held only such frames, whose instances are Finished.
use Rattle.std.proofs.Common.{◌≡◌, ℕ, ◌+◌, ◌<◌, ◌≤◌, ◌&&◌, ◌||◌, ◌==◌, inl, Bool, true, false, not, List, [], ◌∷◌, Option, Some, zero, suc, refl, sym, ap, ◌∙◌, subst, arith}
use Rattle.std.specs.Prelude.{slice_get}
use Rattle.std.specs.Option.{option_map_or}
use Rattle.std.proofs.lemmas.Bool.{and_from, and_parts, eq-eqb, eqb-true, false≢true}
use Rattle.pass_split_proof.proofs.states.Judged.{control_covered, judge_is}
use Rattle.pass_split_proof.specs.given_begins.Room.{IsAround, IsPlaceFor, Reused}
use Rattle.pass_split_proof.specs.states.Instances.{IsControl, IsLaidOut, LiesAligned, is_given_in, is_held, lives_in}
use Rattle.pass_proofs.specs.run_framed.Framed.{FramedGiven, are_finished_at, covers}
use Rattle.pass_proofs.proofs.run_laws.memory.Written.{same_some}
use Rattle.pass_proofs.specs.run_laws.access.Lines.{pointer_at}
use Rattle.pass_proofs.specs.run_memory.Memory.{is_live, same_kind}
use Rattle.pass_proofs.specs.run_memory.declared.block.Kind.{Kind}
use Rattle.pass_proofs.specs.run_memory.declared.block.MemoryBlock.{MemoryBlock}
use Rattle.pass_proofs.specs.run_source.State.{began_at, is_finished}
use Rattle.pass_proofs.specs.run_source.declared.state.Instance.{Instance}

-- ---- instances that are Finished

-- one that began at the place
pub finished_there : (xs : List Instance) (b o : ℕ) → are_finished_at xs (pointer_at b o) ≡ true → (i : ℕ)
    (z : Instance) → slice_get xs i ≡ Some z → z.block ≡ b → z.start ≡ o → is_finished z.status ≡ true
finished_there [] b o e i z h block start = absurd (cc)
finished_there (y ∷ xs) b o e zero z h block start =
    let same : y ≡ z = same_some y z h in
    by (is_finished z.status) (subst (λ (w : Instance). (not (began_at b o w) || is_finished w.status) ≡ true) same
    (and_parts (not (began_at b o y) || is_finished y.status) _ e).0)
  where
    began : began_at b o z ≡ true
    began = and_from (z.block == b) (z.start == o) (eq-eqb z.block b block) (eq-eqb z.start o start)

    by : (t : Bool) → (not (began_at b o z) || t) ≡ true → t ≡ true
    by true h = refl
    by false h = absurd (no (began_at b o z) began h)
      where
        no : (c : Bool) → c ≡ true → (not c || false) ≡ true → ⊥
        no true e h = false≢true h
        no false e h = false≢true e
finished_there (y ∷ xs) b o e (suc i) z h block start =
    finished_there xs b o (and_parts (not (began_at b o y) || is_finished y.status) _ e).1 i z h block start

-- ---- the block

module _ (g : FramedGiven) (xs : List Instance) (x : Instance) (m n : List MemoryBlock) (u : MemoryBlock)
    (there : slice_get m x.block ≡ Some u) (live : is_live u.life ≡ true) (stack : u.kind ≡ Kind.Stack)
    (lies : LiesAligned g x u) (laid : IsLaidOut g x.coroutine)
    (all : (i : ℕ) (z : Instance) → slice_get xs i ≡ Some z → IsLaidOut g z.coroutine)
    (one : (i : ℕ) (z : Instance) → slice_get xs i ≡ Some z → z.block ≡ x.block
    → (z.start ≡ x.start) × (z.coroutine ≡ x.coroutine))
    (over : (i : ℕ) (z : Instance) → slice_get xs i ≡ Some z → z.block ≡ x.block → is_finished z.status ≡ true) where
  -- a frame that was given is there no more once its instance is Finished
  gone : (z : Instance) → z.block ≡ x.block → is_finished z.status ≡ true → is_held m z ≡ false
  gone z same done = no (not z.freed) (is_given_in (slice_get m z.block) z) (is_finished z.status)
      (lives_in (slice_get m z.block)) given done
    where
      given : is_given_in (slice_get m z.block) z ≡ true
      given = ap (λ (b : Bool). b || not (z.start == 0)) (ap (λ (o : Option MemoryBlock). option_map_or
          (λ (y : MemoryBlock). same_kind y.kind Kind.Stack) o false) (ap (slice_get m) same ∙ there)
          ∙ ap (λ (k : Kind). same_kind k Kind.Stack) stack)

      no : (a b c d : Bool) → b ≡ true → c ≡ true → (a && (not (b && c) && d)) ≡ false
      no true true true d e f = refl
      no false true true d e f = refl
      no a false c d e f = absurd (false≢true e)
      no a true false d e f = absurd (false≢true f)

  no_allocator : (k : Kind) → k ≡ Kind.Stack → k ≡ Kind.Allocator → ⊥
  no_allocator k e f = other (sym e ∙ f)
    where
      other : Kind.Stack ≡ Kind.Allocator → ⊥
      other h = cc

  -- no frame of the block lies around the new one
  first_control : IsControl g x x.block x.start
  first_control = (refl, inl (from x.start, to x.start))
    where
      from : (s : ℕ) → s ≤ s
      from s = omega arith

      to : (s : ℕ) → s < s + 16
      to s = omega arith

  not_around : (i : ℕ) (z : Instance) → slice_get xs i ≡ Some z → z.block ≡ x.block → IsAround g x z → ⊥
  not_around i z e same away =
      let p = one i z e same in
      away x.start (same, inl (low z.start x.start p.0, high z.start x.start p.0))
      (control_covered g xs x laid x.start first_control)
    where
      low : (a b : ℕ) → a ≡ b → a ≤ b
      low a b e = omega arith

      high : (a b : ℕ) → a ≡ b → b < a + 16
      high a b e = omega arith

  pub block_place : IsPlaceFor g xs x m n
  block_place = record {
    block = u;
    there = there;
    live = live;
    writable = ap (λ (k : Kind). same_kind k Kind.Constant) stack;
    owned = λ e. absurd (no_allocator u.kind stack e);
    given = ap (λ (o : Option MemoryBlock). is_given_in o x) there
        ∙ ap (λ (k : Kind). same_kind k Kind.Stack || not (x.start == 0)) stack;
    lies = lies;
    laid = all;
    leave = λ i z e same. let p = one i z e same in Reused p.0 p.1 (gone z same (over i z e same));
    stand = λ at i z v e away. absurd (not_around i z (judge_is g xs x.block at i z e).there
        (judged at z (judge_is g xs x.block at i z e).covered) away);
  }
    where
      judged : (at : ℕ) (z : Instance) → covers g x.block at z ≡ true → z.block ≡ x.block
      judged at z c = eqb-true z.block x.block (and_parts _ _ (and_parts _ _ c).0).0
