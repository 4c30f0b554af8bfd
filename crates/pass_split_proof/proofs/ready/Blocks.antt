-- Allocas and markers are ready in the parts.
use Rattle.std.proofs.Common.{◌≡◌, ◌≤◌, ◌<◌, ◌^◌, ℕ, zero, suc, Bool, true, false, List, [], ◌∷◌, ◌++◌, flat_map, refl, sym, ap, subst, arith}
use Rattle.std.proofs.lemmas.Bool.{leb-true}
use Rattle.std.specs.List.{list_any}
use Rattle.std.specs.Prelude.{ℤ, Option, Some, nat_le, slice_get, ◌&&◌, ◌||◌, ◌==◌}
use Rattle.pass_proofs.specs.frame_layout.declared.layout.Layouts.{Layouts}
use Rattle.pass_proofs.proofs.ir_laws.facts.Truth.{and_first, and_second, holds, itself}
use Rattle.pass_proofs.proofs.ir_laws.paths.renamed.Uses.{stands_in}
use Rattle.pass_proofs.specs.ir_model.Layout.{extent_of, extent_or, size_of}
use Rattle.pass_proofs.specs.ir_model.Names.{function_at}
use Rattle.pass_proofs.specs.ir_model.Ty.{Ty}
use Rattle.pass_proofs.specs.ir_model.declared.instr.Instr.{Instr}
use Rattle.pass_proofs.specs.ir_model.declared.module.Block.{Block}
use Rattle.pass_proofs.specs.ir_model.declared.module.Function.{Function}
use Rattle.pass_proofs.specs.ir_model.declared.module.Module.{Module}
use Rattle.pass_proofs.specs.ir_model.declared.operand.Arg.{Arg}
use Rattle.pass_proofs.specs.ir_model.declared.operand.Callee.{Callee}
use Rattle.pass_proofs.specs.ir_model.declared.operand.Intrinsic.{Intrinsic}
use Rattle.pass_proofs.specs.ir_paths.Slots.{allocas_in, allocas_of}
use Rattle.pass_split_proof.proofs.ready.At.{others, read, ruled}
use Rattle.pass_split_proof.proofs.ready.Rules.{at_instr}
use Rattle.pass_split_proof.specs.making.Blocks.{IsAlloca, IsAtAlloca}
use Rattle.pass_split_proof.specs.marking.Markers.{IsAtMarker}
use Rattle.pass_split_proof.specs.ready.Module.{IsFollowableIn}
use Rattle.pass_split_proof.specs.simulation.Premises.{IsAt, IsAtPlace}
use Rattle.pass_split_proof.specs.simulation.Statement.{parts_given}
use Rattle.pass_split_proof.specs.states.Related.{AreRelated}
use Rattle.pass_proofs.proofs.rule_laws.rules.sources.Places.{instr_there, point}
use Rattle.pass_proofs.specs.rule_laws.rules.function_rules.Kept.{KeepsFunctionRulesAt}
use Rattle.pass_proofs.specs.rule_locals.Extents.{breaks_extents, is_aligned, is_sized}
use Rattle.pass_proofs.specs.rule_locals.Instrs.{on_instr}
use Rattle.pass_proofs.specs.rule_names.declared.stage.Stage.{Stage}
use Rattle.pass_proofs.specs.run_framed.Framed.{framed_given}
use Rattle.pass_proofs.specs.run_memory.declared.pointer.Offset.{Offset}
use Rattle.pass_proofs.specs.run_memory.declared.pointer.Pointer.{Pointer}
use Rattle.pass_proofs.specs.run_memory.declared.pointer.Value.{Value}
use Rattle.run_access_worked.specs.run_plain.declared.state.PlainState.{PlainState}
use Rattle.pass_proofs.specs.run_source.Source.{is_among}
use Rattle.pass_proofs.specs.run_source.declared.state.State.{State}
use Rattle.pass_proofs.specs.run_step.Step.{AtInstr, fetch}
use Rattle.pass_proofs.specs.run_step.Values.{arg_values, nth}

-- ---- an alloca is among those of its function

any_left : (name : ℕ) (xs ys : List ℕ) → list_any (λ a. a == name) xs ≡ true
    → list_any (λ a. a == name) (xs ++ ys) ≡ true
any_left name [] ys e = absurd (cc)
any_left name (x ∷ xs) ys e = on (x == name) e (any_left name xs ys)
  where
    on : (b : Bool) → (b || list_any (λ a. a == name) xs) ≡ true
        → (list_any (λ a. a == name) xs ≡ true → list_any (λ a. a == name) (xs ++ ys) ≡ true)
        → (b || list_any (λ a. a == name) (xs ++ ys)) ≡ true
    on true h more = refl
    on false h more = more h

any_right : (name : ℕ) (xs ys : List ℕ) → list_any (λ a. a == name) ys ≡ true
    → list_any (λ a. a == name) (xs ++ ys) ≡ true
any_right name [] ys e = e
any_right name (x ∷ xs) ys e = on (x == name) (any_right name xs ys e)
  where
    on : (b : Bool) → list_any (λ a. a == name) (xs ++ ys) ≡ true → (b || list_any (λ a. a == name) (xs ++ ys)) ≡ true
    on true h = refl
    on false h = h

any_more : (name : ℕ) (i : Instr) (is : List Instr) → list_any (λ a. a == name) (allocas_in is) ≡ true
    → list_any (λ a. a == name) (allocas_in (i ∷ is)) ≡ true
any_more name (Instr.Alloca x ty align) is e = any_right name (x ∷ []) (allocas_in is) e
any_more name (Instr.Binary x op flags ty a b) is e = e
any_more name (Instr.Icmp x pred ty a b) is e = e
any_more name (Instr.Select x c a b) is e = e
any_more name (Instr.Cast x op nneg arg to) is e = e
any_more name (Instr.Load x ty p align) is e = e
any_more name (Instr.Store arg p align) is e = e
any_more name (Instr.Gep x inbounds ty base indices) is e = e
any_more name (Instr.Call result must_tail ty callee args) is e = e

any_in : (name align : ℕ) (ty : Ty) (is : List Instr) (at : ℕ) → slice_get is at ≡ Some (Instr.Alloca name ty align)
    → list_any (λ a. a == name) (allocas_in is) ≡ true
any_in name align ty [] at e = absurd (cc)
any_in name align ty (i ∷ is) zero e =
    let same : i ≡ Instr.Alloca name ty align = cc in
    subst (λ (j : Instr). list_any (λ a. a == name) (allocas_in (j ∷ is)) ≡ true) (sym same)
    (ap (λ (b : Bool). b || list_any (λ a. a == name) (allocas_in is)) (itself name))
any_in name align ty (i ∷ is) (suc at) e = any_more name i is (any_in name align ty is at e)

any_by : (name align : ℕ) (ty : Ty) (bs : List Block) (q at : ℕ) (b : Block) → slice_get bs q ≡ Some b
    → slice_get b.instrs at ≡ Some (Instr.Alloca name ty align)
    → list_any (λ a. a == name) (flat_map (λ (c : Block). allocas_in c.instrs) bs) ≡ true
any_by name align ty [] q at b got e = absurd (cc)
any_by name align ty (c ∷ bs) zero at b got e =
    let same : c ≡ b = cc in
    any_left name (allocas_in c.instrs) (flat_map (λ (d : Block). allocas_in d.instrs) bs)
    (subst (λ (d : Block). list_any (λ a. a == name) (allocas_in d.instrs) ≡ true) (sym same)
    (any_in name align ty b.instrs at e))
any_by name align ty (c ∷ bs) (suc q) at b got e =
    any_right name (allocas_in c.instrs) (flat_map (λ (d : Block). allocas_in d.instrs) bs)
    (any_by name align ty bs q at b got e)

pub is_own_alloca : (f : Function) (block at name align : ℕ) (ty : Ty)
    → fetch f block at ≡ AtInstr (Instr.Alloca name ty align) → (made : ℕ)
    → is_among (allocas_of f) (record { alloca = name; block = made }) ≡ true
is_own_alloca f block at name align ty here made =
    let x = stands_in f (point block at) (Instr.Alloca name ty align) (instr_there f block at
    (Instr.Alloca name ty align) here) in
    any_by name align ty f.blocks block at x.block x.got x.stands

-- its type is small (Y4)
pub is_small_alloca : (m : Module) (k : ℕ) (f : Function) → KeepsFunctionRulesAt Stage.Plain m k f
    → (block at name align : ℕ) (ty : Ty)
    → fetch f block at ≡ AtInstr (Instr.Alloca name ty align) → size_of m ty < 2 ^ 64
is_small_alloca m k f rules block at name align ty here =
    let e = at_instr k f (on_instr (breaks_extents Stage.Plain m)) rules.local.extents block at
    (Instr.Alloca name ty align) here in
    let sized = and_first (is_sized 16777216 (size_of m ty)) (is_aligned align)
    (holds (is_sized 16777216 (size_of m ty) && is_aligned align) e) in
    low (size_of m ty) (leb-true (size_of m ty) 16777216
    (and_second (nat_le 1 (size_of m ty)) (nat_le (size_of m ty) 16777216) sized))
  where
    low : (n : ℕ) → n ≤ 16777216 → n < 2 ^ 64
    low n le = omega arith

-- ---- at related states

module _ {stage : Stage} {ruler : Module} (ls : Layouts) (m : Module) (w : IsFollowableIn stage ruler ls m)
    (answers : List ℤ) (s : State) (t : PlainState)
    (r : AreRelated (framed_given m ls.coroutines answers) (parts_given ls m answers) s t) where
  pub is_alloca : (name align : ℕ) (ty : Ty)
      → IsAt (framed_given m ls.coroutines answers) s (AtInstr (Instr.Alloca name ty align))
      → IsAlloca (framed_given m ls.coroutines answers) (parts_given ls m answers) s t r
  is_alloca name align ty here = record {
    name = name;
    ty = ty;
    align = align;
    there = here;
    sized = refl;
    small = subst (λ (n : ℕ). n < 2 ^ 64) (ap (λ ts. (extent_or (extent_of ts ty)).size) w.ruler.types)
        (is_small_alloca ruler s.top.func (function_at m s.top.func)
        (ruled ls m w answers s t r (Instr.Alloca name ty align) here).rules s.top.block s.top.at name align ty here);
    among = λ made coroutine. is_own_alloca (function_at m s.top.func) s.top.block s.top.at name align ty here made;
    others = λ e. others ls m w answers s t r (Instr.Alloca name ty align) here refl (ap Some e);
  }

  pub alloca_ready : (name align : ℕ) (ty : Ty)
      → IsAt (framed_given m ls.coroutines answers) s (AtInstr (Instr.Alloca name ty align))
      → IsAtPlace (framed_given m ls.coroutines answers) (parts_given ls m answers) s t r
      → IsAtAlloca (framed_given m ls.coroutines answers) (parts_given ls m answers) s t r
  alloca_ready name align ty here p = record {
    alloca = is_alloca name align ty here;
    settled = p.settled;
    place = p.place;
  }

  pub marker_ready : (result : Option ℕ) (must_tail : Bool) (ty : Option Ty) (x : Intrinsic) (args : List Arg)
      → IsAt (framed_given m ls.coroutines answers) s (AtInstr
      (Instr.Call result must_tail ty (Callee.Intrinsic x) args))
      → IsAtPlace (framed_given m ls.coroutines answers) (parts_given ls m answers) s t r
      → (block : ℕ) (offset : Offset)
      → nth (arg_values m s.top.values args) 1 ≡ Value.Ptr (Pointer.At block offset)
      → (k : IsAtMarker (framed_given m ls.coroutines answers) (parts_given ls m answers) s t r x) × (k.block ≡ block)
  marker_ready result must_tail ty x args here p block offset marks = (
    record {
      settled = p.settled;
      place = p.place;
      result = result;
      must_tail = must_tail;
      ty = ty;
      args = args;
      there = here;
      readable = read ls m w answers s t r (Instr.Call result must_tail ty (Callee.Intrinsic x) args) here;
      block = block;
      offset = offset;
      marks = marks;
    },
    refl,
  )
