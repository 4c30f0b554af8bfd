-- The hooks of a run that makes slots anew give names of flagged allocas addresses, before a label is entered.
use Rattle.std.proofs.Common.{◌≡◌, ◌⊎◌, inl, inr, ℕ, ◌+◌, ◌<◌, ◌≤◌, ◌==◌, Bool, true, false, ◌∷◌}
use Rattle.std.proofs.Common.{length, drop, Option, Some, None, refl, sym, ap, ◌∙◌, subst, arith}
use Rattle.std.proofs.lemmas.Bool.{cases_lt, false≢true}
use Rattle.std.specs.Prelude.{option_map, slice_get}
use Rattle.pass_frames_proof.specs.ir_model.Names.{first_where, function_at, position_of}
use Rattle.pass_frames_proof.specs.ir_model.declared.instr.Instr.{Instr}
use Rattle.pass_frames_proof.specs.ir_model.declared.module.Block.{Block}
use Rattle.pass_frames_proof.specs.ir_model.declared.module.Function.{Function}
use Rattle.pass_frames_proof.specs.ir_paths.declared.point.Point.{Point}
use Rattle.pass_frames_meaning.proofs.executed.Renewed.{life_top, new_slot_own, renewed_keeps_executed}
use Rattle.pass_frames_meaning.proofs.woken.Flagged.{next_found, none_flagged}
use Rattle.pass_frames_meaning.specs.Anew.{HaveAddresses, IsAddressed, KeepsAnew}
use Rattle.pass_frames_meaning.specs.Executed.{HasOwnSlot}
use Rattle.pass_frames_proof.proofs.anew.Lists.{rooted_value, unrooted_value}
use Rattle.pass_frames_proof.specs.pass_kept_proof.Kept.{kept}
use Rattle.pass_frames_proof.specs.pass_renewed_proof.Renewed.{RenewedGiven, in_new_slot, is_renewed, renew_after, renewed_from}
use Rattle.pass_frames_proof.specs.pass_renewed_proof.Renewed.{renewed_in, renewed_slot, renewed_values, with_life}
use Rattle.pass_frames_proof.specs.pass_renewed_proof.SlotRules.{IsMadeOnce}
use Rattle.pass_renewed_meaning.proofs.run_hooks.alive.Changes.{phis_other}
use Rattle.pass_renewed_meaning.specs.run_hooks.Meanings.{renewed_hooks}
use Rattle.pass_frames_proof.specs.run_memory.declared.pointer.Pointer.{Pointer}
use Rattle.pass_frames_proof.specs.run_memory.declared.pointer.Value.{Value}
use Rattle.pass_frames_proof.specs.run_source.Source.{new_slot, push, resumed}
use Rattle.pass_frames_proof.specs.run_source.State.{function_of, with_slots, with_status}
use Rattle.pass_frames_proof.specs.run_source.declared.state.Mode.{Mode}
use Rattle.pass_frames_proof.specs.run_source.declared.state.State.{State}
use Rattle.pass_frames_proof.specs.run_source.declared.state.Status.{Status}
use Rattle.pass_frames_proof.specs.run_step.Step.{AtInstr, fetch_in, fetch_or, label_of, phis_of}
use Rattle.pass_frames_proof.specs.run_step.Values.{Env, pointer_to, value_in}
use Rattle.pass_frames_proof.specs.run_step.declared.world.Slot.{Slot}

-- ---- places

-- what is fetched from a block is its instruction
instr_of : (b : Block) (k : ℕ) (i : Instr) → fetch_in (Some b) k ≡ AtInstr i → slice_get b.instrs k ≡ Some i
instr_of b k i e = on (slice_get b.instrs k) refl e
  where
    on : (o : Option Instr) → slice_get b.instrs k ≡ o → fetch_or o (k == length b.instrs) b.term ≡ AtInstr i
        → o ≡ Some i
    on None d h = absurd (none (k == length b.instrs) h)
      where
        none : (z : Bool) → fetch_or None z b.term ≡ AtInstr i → ⊥
        none true q = absurd (cc)
        none false q = absurd (cc)
    on (Some j) d h = cc

module _ (flags : ℕ → Bool) (f : Function) (at v : ℕ) (flag : flags v ≡ true) (made : IsMadeOnce f v) where
  abbrev AsPoint : Option ℕ → Option Point
  AsPoint o = option_map {U = Point} (λ k. record { block = 0; at = k }) o

  abbrev IsBefore : Option Point → Type 0
  IsBefore (Some p) = (p.block ≡ 0 → made.at < p.at) → made.at < at
  IsBefore None = made.at < at

  -- a flagged alloca before the next one stands before this point too
  before_next : (o : Option Point) → renewed_from flags f at ≡ o → IsBefore o
  before_next o e = subst IsBefore e (on (slice_get f.blocks 0) refl)
    where
      none : ◌≡◌ {A = Option Block} None (slice_get f.blocks 0) → ⊥
      none d = nowhere (ap (λ (q : Option Block). fetch_in q made.at) d ∙ made.stands)
        where
          nowhere : fetch_in None made.at ≡ AtInstr (Instr.Alloca v made.ty made.align) → ⊥
          nowhere h = absurd (cc)

      on : (q : Option Block) → slice_get f.blocks 0 ≡ q → IsBefore (AsPoint (renewed_in flags q at))
      on None d = absurd (none (sym d))
      on (Some b) d = by (first_where (is_renewed flags) (drop at b.instrs)) refl
        where
          there : slice_get b.instrs made.at ≡ Some (Instr.Alloca v made.ty made.align)
          there = instr_of b made.at (Instr.Alloca v made.ty made.align)
              (ap (λ (q : Option Block). fetch_in q made.at) (sym d) ∙ made.stands)

          by : (n : Option ℕ) → first_where (is_renewed flags) (drop at b.instrs) ≡ n
              → IsBefore (AsPoint (option_map (λ k. at + k) n))
          by None dn = last (cases_lt made.at at)
            where
              last : (made.at < at) ⊎ (at ≤ made.at) → made.at < at
              last (inl lt) = lt
              last (inr le) = absurd (false≢true
                  (sym (none_flagged flags b.instrs at dn made.at v made.align made.ty le there) ∙ flag))
          by (Some k) dn = λ lt. last (lt refl) (cases_lt made.at at)
            where
              last : made.at < at + k → (made.at < at) ⊎ (at ≤ made.at) → made.at < at
              last far (inl lt) = lt
              last far (inr le) = absurd (false≢true
                  (sym ((next_found flags b.instrs at k dn).before made.at v made.align made.ty le far there) ∙ flag))

-- ---- values

-- an address of a slot stays one where addresses are moved
moved_address : (u x : Value) (n : ℕ) → x ≡ pointer_to n → (k : ℕ) × (in_new_slot u x ≡ pointer_to k)
moved_address u x n e = on u
  where
    on : (u : Value) → (k : ℕ) × (in_new_slot u x ≡ pointer_to k)
    on Value.Poison = (n, ap (in_new_slot Value.Poison) e)
    on (Value.Int w) = (n, ap (in_new_slot (Value.Int w)) e)
    on (Value.Ptr Pointer.Null) = (n, ap (in_new_slot (Value.Ptr Pointer.Null)) e)
    on (Value.Ptr (Pointer.Func f)) = (n, ap (in_new_slot (Value.Ptr (Pointer.Func f))) e)
    on (Value.Ptr (Pointer.At b o)) = (b, ap (in_new_slot (Value.Ptr (Pointer.At b o))) e)

address_stays : (roots : ℕ → Option ℕ) (env : Env) (v n : ℕ) → value_in env v ≡ pointer_to n
    → (k : ℕ) × (value_in (renewed_values roots env env) v ≡ pointer_to k)
address_stays roots env v n e = on (roots v) refl
  where
    on : (o : Option ℕ) → roots v ≡ o → (k : ℕ) × (value_in (renewed_values roots env env) v ≡ pointer_to k)
    on None d = (n, unrooted_value roots env env v d ∙ e)
    on (Some a) d =
        let z = moved_address (value_in env a) (value_in env v) n e in (z.0, rooted_value roots env env v a d ∙ z.1)

-- ---- an activation goes on to the next one

module _ (g : RenewedGiven) where
  renews : (s : State) (from label at : ℕ) (o : Option Point)
      → renewed_from (g.flags s.top.func) (function_at g.given.code s.top.func) at ≡ o
      → ((v : ℕ) → g.flags s.top.func v ≡ true → (made : IsMadeOnce (function_at g.given.code s.top.func) v)
      → made.at < at → (n : ℕ) × (value_in s.top.values v ≡ pointer_to n))
      → IsAddressed g.given.code g.flags (renew_after g s from label o).top
  renews s from label at (Some p) e have = λ v c made lt.
      have v c made (before_next (g.flags s.top.func) (function_at g.given.code s.top.func) at v c made (Some p) e lt)
  renews s from label at None e have = λ v c made lt.
      let f : Function = function_at g.given.code s.top.func in
      let z = have v c made (before_next (g.flags s.top.func) f at v c made None e) in
      let moved : Env = renewed_values (g.roots s.top.func) s.top.values s.top.values in
      let y = address_stays (g.roots s.top.func) s.top.values v z.0 z.1 in (
        y.0,
        phis_other g.given.code moved (label_of (slice_get f.blocks from))
            (phis_of (slice_get f.blocks (position_of f label))) moved v (made.no_phi (position_of f label)) ∙ y.1,
      )

  own_slot : (s : State) (slot : Slot) → IsAddressed g.given.code g.flags s.top
      → IsAddressed g.given.code g.flags (new_slot g.given s slot).top
  own_slot s slot k = subst (λ (z : ℕ × ℕ × ℕ × Env).
      HaveAddresses (g.flags z.0) (function_at g.given.code z.0) z.1 z.2 z.3)
      (λ i. (sym p.func i, sym p.block i, sym p.at i, sym p.values i)) k
    where
      p : HasOwnSlot g.given slot s (new_slot g.given s slot)
      p = (new_slot_own g.given s slot).0

  slot_addressed : (s : State) (slot : Slot) (mode : Mode) → IsAddressed g.given.code g.flags s.top
      → IsAddressed g.given.code g.flags (renewed_slot g s slot mode).top
  slot_addressed s slot (Mode.Entering from label) k =
      renews (with_slots s (slot ∷ s.top.slots)) from label s.top.at
      (renewed_from (g.flags s.top.func) (function_of g.given s) s.top.at) refl
      (λ v c made lt. k v c made (λ zero_block. lt))
  slot_addressed s slot Mode.Plain k = own_slot s slot k
  slot_addressed s slot Mode.Ramp k = own_slot s slot k
  slot_addressed s slot Mode.Resumed k = own_slot s slot k
  slot_addressed s slot (Mode.GivenRamp frame) k = own_slot s slot k

  none_before : (n : ℕ) → n < 0 → ⊥
  none_before n lt = omega (arith, lt)

  pub renewed_keeps_anew : KeepsAnew g.flags (renewed_hooks g)
  renewed_keeps_anew = record {
    executed = renewed_keeps_executed g;
    go_on = λ s i x at vs label.
        renews (push (with_status s i x Status.Running) (resumed i x at (kept (g.keep x.coroutine at) vs))) at.block
        label 0 (renewed_from (g.flags x.coroutine) (function_at g.given.code x.coroutine) 0) refl
        (λ v c made lt. absurd (none_before made.at lt));
    place = λ s slot k.
        slot_addressed (with_life g s slot) slot s.top.mode
        (subst (IsAddressed g.given.code g.flags) (sym (life_top g s slot)) k);
  }
