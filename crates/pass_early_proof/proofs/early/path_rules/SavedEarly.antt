-- Addresses of coroutine slots before begin (rule K9), where saves are written.
use Rattle.std.proofs.Common.{◌≡◌, inl, inr, ℕ, ◌+◌, true, List, length, refl, sym, ap, ◌∙◌, subst}
use Rattle.std.specs.List.{Any}
use Rattle.std.specs.Prelude.{Some, None, Option, option_map, slice_get}
use Rattle.rule_laws.specs.ir_base.declared.outcome.Place.{Place}
use Rattle.rule_laws.proofs.rules.renamed.Outside.{none_breaks}
use Rattle.rule_laws.specs.ir_laws.facts.renamed.Regular.{passes}
use Rattle.rule_laws.proofs.rules.path_rules.Holding.{HoldsOf, first_none, of_parts, to_parts}
use Rattle.pass_early_proof.proofs.early.path_rules.Marked.{slot_back}
use Rattle.pass_early_proof.proofs.early.path_rules.Moved.{IsOf, same_source}
use Rattle.pass_early_proof.proofs.early.path_rules.Origins.{HasOrigin, Kept, Suspended, Written, block_from, origin}
use Rattle.rule_laws.proofs.rules.path_rules.Outside.{NothingOutside, of_outside, place_point}
use Rattle.rule_laws.proofs.ir_laws.paths.path_rules.Outside.{end_at}
use Rattle.pass_early_proof.proofs.early.path_rules.Outside.{end_back, without_home}
use Rattle.pass_early_proof.proofs.early.saves.Tokens.{IsUnsaved, bare_is}
use Rattle.rule_laws.proofs.ir_laws.paths.path_rules.Where.{has_where}
use Rattle.rule_laws.specs.ir_parts.Contents.{ending_operands}
use Rattle.rule_laws.specs.ir_parts.Parts.{Part, parts_of}
use Rattle.ir_model.specs.Names.{position_of}
use Rattle.ir_model.specs.declared.instr.Incoming.{Incoming}
use Rattle.ir_model.specs.declared.instr.Instr.{Instr}
use Rattle.ir_model.specs.declared.instr.Phi.{Phi}
use Rattle.ir_model.specs.declared.module.Block.{Block}
use Rattle.ir_model.specs.declared.module.Function.{Function}
use Rattle.ir_model.specs.declared.operand.Intrinsic.{Intrinsic}
use Rattle.ir_model.specs.declared.operand.Operand.{Operand}
use Rattle.rule_laws.specs.ir_paths.Paths.{has_point}
use Rattle.rule_laws.specs.ir_paths.Slots.{has_name}
use Rattle.rule_laws.specs.ir_paths.Windows.{instr_at, instr_in, is_call_of}
use Rattle.rule_laws.specs.ir_paths.declared.point.Point.{Point}
use Rattle.pass_early_proof.proofs.early.saves.Blocks.{get_block, position_saved}
use Rattle.pass_early_proof.proofs.early.saves.Slots.{same_addresses, same_allocas, same_ramp_slots}
use Rattle.pass_early_proof.specs.early.saves.SavesWritten.{is_bare, saved_block, saved_function}
use Rattle.pass_early_proof.specs.early.saves.Spots.{back_of, number_of_block, own_saves, place_in}
use Rattle.rule_laws.specs.ir_laws.facts.expanded.Spots.{instrs_in}
use Rattle.rule_laws.specs.ir_laws.paths.expanded.Tokens.{HasNamedTokens}
use Rattle.rule_laws.specs.rule_slots.Early.{BreaksEarly, IsBeforeBegin, IsFirstEarly, IsMisused, IsTakenEarly, end_of, instr_count, memory_uses, other_uses, end_at as ends_at}
use Rattle.rule_laws.specs.rule_slots.Slots.{IsCoroutineSlot, IsSlotAddress, NamesAddress, NamesPart}
use Rattle.rule_laws.specs.rule_windows.Outside.{IsFirstOutside, needs_begin}
use Rattle.rule_laws.specs.rule_windows.Points.{begins, entry}
use Rattle.rule_laws.specs.rule_windows.Sets.{IsWithoutBegin}

-- ---- the rule, by points

pub record NothingEarly (f : Function) : Type 0 where
  pub phis : (k j : ℕ) (b : Block) (x : Phi) → slice_get f.blocks k ≡ Some b → slice_get b.phis j ≡ Some x → Any (IsTakenEarly f) x.incoming → ⊥
  pub instrs : (p : Point) (i : Instr) → instr_at f p ≡ Some i → IsBeforeBegin f p → IsMisused f i → ⊥
  pub endings : (k : ℕ) (b : Block) → slice_get f.blocks k ≡ Some b → IsBeforeBegin f (end_at k b) → Any (NamesAddress f) (ending_operands b.term) → ⊥

module _ (func : ℕ) (f : Function) where
  abbrev Fine : Place × Part → Type 0
  Fine x = BreaksEarly f x → ⊥

  pub to_early : NothingEarly f → IsFirstEarly func f None
  to_early h =
      first_none (BreaksEarly f) (λ x. x.0) (parts_of func f) (to_parts Fine func f (record {
        signature = λ k. absurd k.1;
        blocks = λ k b e. record {
          head = λ x. absurd x.1;
          phis = λ j p q x. h.phis k j b p e q x.1;
          instrs = λ j i q x. h.instrs (record { block = k; at = j }) i (ap (λ (o : Option Block). instr_in o j) e ∙ q) (subst (IsBeforeBegin f) (place_point func f k j b e) x.1.0) x.1.1;
          ending = λ x. h.endings k b e (subst (IsBeforeBegin f) (place_point func f k (length b.instrs) b e) x.1.0) x.1.1;
        };
      }))

  pub of_early : f.coroutine ≡ true → IsFirstEarly func f None → NothingEarly f
  of_early coroutine none =
      let parts = of_parts Fine func f (none_breaks (BreaksEarly f) (λ x. x.0) (parts_of func f) none) in
      record {
        phis = λ k j b x e d taken. (parts.blocks k b e).phis j x d (coroutine, taken);
        instrs = λ p i e before misused. on parts p i e before misused (slice_get f.blocks p.block) refl;
        endings = λ k b e before uses. (parts.blocks k b e).ending (coroutine, (subst (IsBeforeBegin f) (sym (place_point func f k (length b.instrs) b e)) before, uses));
      }
    where
      on : HoldsOf Fine func f → (p : Point) (i : Instr) → instr_at f p ≡ Some i → IsBeforeBegin f p → IsMisused f i → (o : Option Block) → slice_get f.blocks p.block ≡ o → ⊥
      on parts p i e before misused None d = let none : None ≡ Some i = sym (ap (λ (o : Option Block). instr_in o p.at) d) ∙ e in cc
      on parts p i e before misused (Some b) d =
          (parts.blocks p.block b d).instrs p.at i (sym (ap (λ (o : Option Block). instr_in o p.at) d) ∙ e)
          (coroutine, (subst (IsBeforeBegin f) (sym (place_point func f p.block p.at b d)) before, misused))

pub any_map : {A : Type 0} (P Q : A → Type 0) → ((x : A) → P x → Q x) → (xs : List A) → Any P xs → Any Q xs
any_map P Q h xs a = (a.0, a.1, a.2, a.3, h a.1 a.4)

module _ (f : Function) (named : HasNamedTokens f) where
  abbrev late : Function
  late = saved_function f

  -- ---- addresses

  slot_home : (v : ℕ) → IsCoroutineSlot late v → IsCoroutineSlot f v
  slot_home v = slot_back f late (λ a. ap (λ (vs : List ℕ). has_name vs a) (same_allocas f named)) (same_ramp_slots f named) (Operand.Local v)

  slot_now : (v : ℕ) → IsCoroutineSlot f v → IsCoroutineSlot late v
  slot_now v = slot_back late f (λ a. ap (λ (vs : List ℕ). has_name vs a) (sym (same_allocas f named))) (λ a. sym (same_ramp_slots f named a)) (Operand.Local v)

  address_home : (v : ℕ) → IsSlotAddress late v → IsSlotAddress f v
  address_home v h = record { slot = h.slot; is_slot = slot_home h.slot h.is_slot; is_address = ap (λ (vs : List ℕ). has_name vs v) (sym (same_addresses f named h.slot)) ∙ h.is_address }

  names_home : (x : Operand) → NamesAddress late x → NamesAddress f x
  names_home (Operand.Local v) h = address_home v h
  names_home _ h = absurd h

  part_home : (x : Operand) → NamesPart late x → NamesPart f x
  part_home (Operand.Local v) h = (address_home v h.0, (λ s. h.1 (slot_now v s)))
  part_home _ h = absurd h

  misused_home : (i : Instr) → IsMisused late i → IsMisused f i
  misused_home i (inl a) = inl (any_map (NamesAddress late) (NamesAddress f) names_home (other_uses i) a)
  misused_home i (inr a) = inr (any_map (NamesPart late) (NamesPart f) part_home (memory_uses i) a)

  -- ---- before begin

  before_home : (y q : Point) → IsOf f y q → IsBeforeBegin late y → IsBeforeBegin f q
  before_home y q at (inl e) = inl (same_source f y q entry at (inl e))
  before_home y q at (inr h) = inr (without_home f named y q at h)

  -- a suspend doesn't stand there
  never_before : NothingOutside f → (p : Point) (i : Instr) → instr_at f p ≡ Some i → is_bare f.coroutine i ≡ true → IsBeforeBegin f p → ⊥
  never_before outside p i e bare before = outside.instrs p i e (inr (ap needs_begin is.is, without before))
    where
      is : IsUnsaved i
      is = bare_is f.coroutine i bare

      without : IsBeforeBegin f p → IsWithoutBegin f p
      without (inl same) = record { begins_later = ap (has_point (begins f)) (sym same) ∙ has_where (is_call_of Intrinsic.CoroBegin) f p ∙ ap (passes (is_call_of Intrinsic.CoroBegin)) e ∙ ap (is_call_of Intrinsic.CoroBegin) is.is; path = inl same }
      without (inr h) = h

  -- the end of the block of a label is the back of its end
  end_there : (k : ℕ) → ends_at late k ≡ back_of f (ends_at f k)
  end_there k = on (slice_get f.blocks k) refl
    where
      on : (o : Option Block) → slice_get f.blocks k ≡ o → ends_at late k ≡ back_of f (ends_at f k)
      on None e =
          ap (λ (o : Option Block). record { block = k; at = instr_count o }) (get_block f.coroutine k (length f.names) f.blocks ∙ ap (option_map (saved_block f.coroutine (number_of_block f.coroutine k (length f.names) f.blocks))) e)
          ∙ sym (ap (λ (o : Option Block). back_at o) e)
        where
          back_at : Option Block → Point
          back_at o = record { block = k; at = place_in f.coroutine (instr_count o) (number_of_block f.coroutine k (length f.names) f.blocks) (instrs_in o) + own_saves f.coroutine (slice_get (instrs_in o) (instr_count o)) }
      on (Some b) e =
          let d : Block = saved_block f.coroutine (number_of_block f.coroutine k (length f.names) f.blocks) b in
          ap (λ (o : Option Block). record { block = k; at = instr_count o }) (get_block f.coroutine k (length f.names) f.blocks ∙ ap (option_map (saved_block f.coroutine (number_of_block f.coroutine k (length f.names) f.blocks))) e)
          ∙ end_back f named k d (record { block = b; got = e; is = refl })
          ∙ sym (ap (λ (o : Option Block). back_of f (record { block = k; at = instr_count o })) e)

  taken_home : (i : Incoming) → IsTakenEarly late i → IsTakenEarly f i
  taken_home i h = (
    names_home i.value h.0,
    before_home (end_of late i.from) (end_of f i.from) (inr (ap (ends_at late) (position_saved f i.from) ∙ end_there (position_of f i.from))) h.1,
  )

  early_by : NothingOutside f → NothingEarly f → (y : Point) (i : Instr) → IsBeforeBegin late y → IsMisused late i → HasOrigin f y i → ⊥
  early_by outside h y i before misused (Kept p e bare front back) = h.instrs p i e (before_home y p (inl front) before) (misused_home i misused)
  early_by outside h y i before misused (Suspended p name j e bare le back same) = never_before outside p j e bare (before_home y p (inr back) before)
  early_by outside h y i before misused (Written p name j e bare le front same) = never_before outside p j e bare (before_home y p (inl front) before)

  pub early_saved : NothingOutside f → NothingEarly f → NothingEarly late
  early_saved outside h = record {
    phis = λ k j d x e q taken.
        let b = block_from f k d e in
        h.phis k j b.block x b.got (ap (λ (c : Block). slice_get c.phis j) (sym b.is) ∙ q) (any_map (IsTakenEarly late) (IsTakenEarly f) taken_home x.incoming taken);
    instrs = λ y i e before misused. early_by outside h y i before misused (origin f y i e);
    endings = λ k d e before uses.
        let b = block_from f k d e in
        h.endings k b.block b.got (before_home (end_at k d) (end_at k b.block) (inr (end_back f named k d b)) before)
        (any_map (NamesAddress late) (NamesAddress f) names_home (ending_operands b.block.term) (subst (λ (c : Block). Any (NamesAddress late) (ending_operands c.term)) b.is uses));
  }

pub first_early_saved : (func : ℕ) (f : Function) → f.coroutine ≡ true → HasNamedTokens f → IsFirstOutside func f None → IsFirstEarly func f None → IsFirstEarly func (saved_function f) None
first_early_saved func f coroutine named outside none = to_early func (saved_function f) (early_saved f named (of_outside func f coroutine outside) (of_early func f coroutine none))
