-- The name of begin's value: no other instruction gives it, and no phi (N1).
use Rattle.std.proofs.Common.{◌≡◌, ◌<◌, inl, inr, ℕ, true, false, List, [], ◌∷◌, length, sym, ap, ◌∙◌, subst, arith}
use Rattle.std.proofs.lemmas.Bool.{false≢true}
use Rattle.std.specs.Prelude.{None, Option, Some, option_and_then, slice_get}
use Rattle.pass_proofs.specs.flow_solver.Paths.{IsListed}
use Rattle.pass_proofs.proofs.ir_laws.facts.Lists.{phi_names}
use Rattle.pass_proofs.proofs.ir_laws.paths.alike_functions.Lists.{each_where}
use Rattle.pass_proofs.proofs.ir_laws.paths.sources.Listed.{point_listed}
use Rattle.pass_proofs.specs.ir_model.Calls.{first_result}
use Rattle.pass_proofs.specs.ir_model.declared.instr.Instr.{Instr}
use Rattle.pass_proofs.specs.ir_model.declared.instr.Phi.{Phi}
use Rattle.pass_proofs.specs.ir_model.declared.module.Block.{Block}
use Rattle.pass_proofs.specs.ir_model.declared.module.Function.{Function}
use Rattle.pass_proofs.specs.ir_model.declared.module.Module.{Module}
use Rattle.pass_proofs.specs.ir_model.declared.operand.Allocator.{Allocator}
use Rattle.pass_proofs.specs.ir_model.declared.operand.Callee.{Callee}
use Rattle.pass_proofs.specs.ir_model.declared.operand.Intrinsic.{Intrinsic}
use Rattle.pass_proofs.specs.ir_paths.Windows.{call_result, instr_at, instr_in, is_call_of, points_where}
use Rattle.pass_proofs.specs.ir_paths.declared.point.Point.{Point}
use Rattle.pass_proofs.proofs.rule_laws.rules.shape.Stands.{begin_stands}
use Rattle.pass_proofs.proofs.rule_laws.rules.source_rules.Locals.{no_phi, phi_below, result_below, same_instr}
use Rattle.pass_proofs.proofs.rule_laws.rules.source_rules.Once.{one_begin}
use Rattle.pass_proofs.proofs.rule_laws.rules.sources.Places.{instr_there, point}
use Rattle.pass_proofs.specs.rule_laws.rules.function_rules.Kept.{KeepsFunctionRulesAt}
use Rattle.pass_proofs.specs.rule_shape.OneOfEach.{wrong_call}
use Rattle.pass_proofs.specs.run_laws.changed.Changed.{Each, result_of}
use Rattle.pass_proofs.specs.run_framed.Framed.{begin_name}
use Rattle.pass_proofs.specs.run_step.Reads.{given_by, given_by_allocator, given_by_intrinsic}
use Rattle.pass_proofs.specs.run_step.Step.{AtInstr, fetch}
use Rattle.pass_proofs.specs.rule_names.declared.stage.Stage.{Stage}

intrinsic_gives : (x : Intrinsic) (r : Option ℕ) (v : ℕ) → given_by_intrinsic x r ≡ Some v → r ≡ Some v
intrinsic_gives Intrinsic.CoroSizeI32 r v e = e
intrinsic_gives Intrinsic.CoroSizeI64 r v e = e
intrinsic_gives Intrinsic.CoroAlignI32 r v e = e
intrinsic_gives Intrinsic.CoroAlignI64 r v e = e
intrinsic_gives Intrinsic.CoroAlloc r v e = e
intrinsic_gives Intrinsic.CoroBegin r v e = e
intrinsic_gives Intrinsic.CoroFree r v e = e
intrinsic_gives Intrinsic.CoroFrame r v e = e
intrinsic_gives Intrinsic.CoroSuspend r v e = e
intrinsic_gives Intrinsic.CoroDone r v e = e
intrinsic_gives Intrinsic.CoroPromise r v e = e
intrinsic_gives _ r v e = absurd (cc)

allocator_gives : (x : Allocator) (r : Option ℕ) (v : ℕ) → given_by_allocator x r ≡ Some v → r ≡ Some v
allocator_gives Allocator.Malloc r v e = e
allocator_gives Allocator.Znwm r v e = e
allocator_gives _ r v e = absurd (cc)

-- a name that a step sets is that of the instruction's result
pub gives_result : (i : Instr) (v : ℕ) → given_by i ≡ Some v → result_of i ≡ Some v
gives_result (Instr.Binary name op flags ty a b) v e = e
gives_result (Instr.Icmp name pred ty a b) v e = e
gives_result (Instr.Select name x a b) v e = e
gives_result (Instr.Cast name op nneg arg to) v e = e
gives_result (Instr.Alloca name ty align) v e = e
gives_result (Instr.Load name ty p align) v e = e
gives_result (Instr.Store arg p align) v e = absurd (cc)
gives_result (Instr.Gep name inbounds ty base indices) v e = e
gives_result (Instr.Call result must_tail ty (Callee.Named n) args) v e = e
gives_result (Instr.Call result must_tail ty (Callee.Allocator a) args) v e = allocator_gives a result v e
gives_result (Instr.Call result must_tail ty (Callee.Intrinsic x) args) v e = intrinsic_gives x result v e
gives_result (Instr.Call result must_tail ty (Callee.Local f) args) v e = e

call_makes : (i : Instr) (v : ℕ) → call_result i ≡ Some v → result_of i ≡ Some v
call_makes (Instr.Call result must_tail ty callee args) v e = e
call_makes _ v e = absurd (cc)

pub phi_listed : (ps : List Phi) (p : Phi) → IsListed p ps → IsListed p.result (phi_names ps)
phi_listed [] p l = absurd l
phi_listed (q ∷ ps) p (inl e) = inl (ap (λ (x : Phi). x.result) e)
phi_listed (q ∷ ps) p (inr l) = inr (phi_listed ps p l)

-- ---- of a coroutine

module _ (m : Module) (k : ℕ) (f : Function) (rules : KeepsFunctionRulesAt Stage.Plain m k f) (begin : ℕ)
    (named : first_result Intrinsic.CoroBegin f ≡ Some begin) where
  -- where begin stands
  record IsBegin : Type 0 where
    at : Point
    instr : Instr
    there : instr_at f at ≡ Some instr
    begins : is_call_of Intrinsic.CoroBegin instr ≡ true
    makes : result_of instr ≡ Some begin
    called : call_result instr ≡ Some begin

  own_begin : IsBegin
  own_begin =
      let x = begin_stands f begin named in
      record {
        at = point x.position x.at;
        instr = x.instr;
        there = ap (λ (o : Option Block). instr_in o x.at) x.got ∙ x.there;
        begins = x.calls;
        makes = call_makes x.instr begin x.makes;
        called = x.makes;
      }

  pub begin_low : begin < length f.names
  begin_low = let x = own_begin in result_below k f rules.tabled x.at x.instr begin x.there x.makes

  pub only_begin : (block at : ℕ) (i : Instr) → fetch f block at ≡ AtInstr i → result_of i ≡ Some begin
      → is_call_of Intrinsic.CoroBegin i ≡ true
  only_begin block at i here e =
      let x = own_begin in
      let same : i ≡ x.instr = same_instr k f rules.definitions (point block at) x.at i x.instr begin
      (instr_there f block at i here) x.there e x.makes in
      ap (is_call_of Intrinsic.CoroBegin) same ∙ x.begins

  pub no_phi_begins : (block : ℕ) (b : Block) (p : Phi) → slice_get f.blocks block ≡ Some b → IsListed p b.phis
      → p.result ≡ begin → ⊥
  no_phi_begins block b p got l e =
      let x = own_begin in
      no_phi k f rules.definitions block b x.at x.instr begin got
      (subst (λ (n : ℕ). IsListed n (phi_names b.phis)) e (phi_listed b.phis p l)) x.there x.makes

  -- a begin makes it (K2)
  pub begin_makes : f.coroutine ≡ true → wrong_call k f ≡ None → (block at : ℕ) (i : Instr)
      → fetch f block at ≡ AtInstr i → is_call_of Intrinsic.CoroBegin i ≡ true → result_of i ≡ Some begin
  begin_makes coroutine calls block at i here begins =
      let x = own_begin in
      let there = instr_there f block at i here in
      let same : point block at ≡ x.at = one_begin k f coroutine calls (point block at) x.at i x.instr there x.there
      begins x.begins in
      let both : Some i ≡ Some x.instr = sym there ∙ ap (instr_at f) same ∙ x.there in
      let one : i ≡ x.instr = cc in
      ap result_of one ∙ x.makes

  -- it is the first (K2)
  pub begin_name_is : f.coroutine ≡ true → wrong_call k f ≡ None → begin_name f ≡ Some begin
  begin_name_is coroutine calls = on (points_where (is_call_of Intrinsic.CoroBegin) f) listed alone
    where
      x : IsBegin
      x = own_begin

      listed : IsListed x.at (points_where (is_call_of Intrinsic.CoroBegin) f)
      listed = point_listed (is_call_of Intrinsic.CoroBegin) f x.at x.instr x.there x.begins

      alone : Each (λ (p : Point). p ≡ x.at) (points_where (is_call_of Intrinsic.CoroBegin) f)
      alone = each_where (λ (p : Point). p ≡ x.at) (is_call_of Intrinsic.CoroBegin) f
          (λ p i there begins. one_begin k f coroutine calls p x.at i x.instr there x.there begins x.begins)

      on : (ps : List Point) → IsListed x.at ps → Each (λ (p : Point). p ≡ x.at) ps
          → option_and_then call_result (option_and_then (instr_at f) (slice_get ps 0)) ≡ Some begin
      on [] l a = absurd l
      on (p ∷ ps) l a = ap (λ (q : Point). option_and_then call_result (instr_at f q)) a.0
          ∙ ap (option_and_then call_result) x.there ∙ x.called

-- ---- of another function the first new name

module _ (m : Module) (k : ℕ) (f : Function) (rules : KeepsFunctionRulesAt Stage.Plain m k f) where
  pub new_made_by_none : (block at : ℕ) (i : Instr) → fetch f block at ≡ AtInstr i
      → result_of i ≡ Some (length f.names) → ⊥
  new_made_by_none block at i here e =
      let low = result_below k f rules.tabled (point block at) i (length f.names) (instr_there f block at i here) e in
      omega (arith, low)

  pub new_taken_by_none : (block : ℕ) (b : Block) (p : Phi) → slice_get f.blocks block ≡ Some b → IsListed p b.phis
      → p.result ≡ length f.names → ⊥
  new_taken_by_none block b p got l e =
      let low = phi_below k f rules.tabled block b p.result got (phi_listed b.phis p l) in
      omega (arith, low, e)

-- ---- of each function

-- the name is begin's, or the first new one
pub data BeginsBy (f : Function) (v : ℕ) : Type 0 where
  Named : f.coroutine ≡ true → first_result Intrinsic.CoroBegin f ≡ Some v → BeginsBy f v
  New : f.coroutine ≡ false → v ≡ length f.names → BeginsBy f v

module _ (m : Module) (k : ℕ) (f : Function) (rules : KeepsFunctionRulesAt Stage.Plain m k f) (v : ℕ) where
  pub other_name : BeginsBy f v → (block at : ℕ) (i : Instr) → fetch f block at ≡ AtInstr i
      → is_call_of Intrinsic.CoroBegin i ≡ false → result_of i ≡ Some v → ⊥
  other_name (Named coroutine named) block at i here none e =
      false≢true (sym none ∙ only_begin m k f rules v named block at i here e)
  other_name (New plain same) block at i here none e = new_made_by_none m k f rules block at i here (e ∙ ap Some same)

  pub other_phi : BeginsBy f v → (block : ℕ) (b : Block) (p : Phi) → slice_get f.blocks block ≡ Some b
      → IsListed p b.phis → p.result ≡ v → ⊥
  other_phi (Named coroutine named) block b p got l e = no_phi_begins m k f rules v named block b p got l e
  other_phi (New plain same) block b p got l e = new_taken_by_none m k f rules block b p got l (e ∙ same)

  pub low_name : BeginsBy f v → f.coroutine ≡ true → v < length f.names
  low_name (Named coroutine named) c = begin_low m k f rules v named
  low_name (New plain same) c = absurd (false≢true (sym plain ∙ c))
