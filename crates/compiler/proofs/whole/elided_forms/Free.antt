-- Calls that give frames name no coro intrinsic.
use Rattle.std.proofs.Common.{◌≡◌, ℕ, Bool, true, false, List, [], ◌∷◌, ◌++◌, map, refl, ap, ◌∙◌}
use Rattle.std.proofs.lemmas.List.{map-append}
use Rattle.std.proofs.lemmas.List.Folds.{list_all-append}
use Rattle.std.specs.List.{list_all}
use Rattle.std.specs.Prelude.{◌&&◌}
use Rattle.compiler.proofs.cleanup.unnamed_intrinsics.Early.{named_by, operands_free}
use Rattle.compiler.proofs.cleanup.unnamed_intrinsics.Sources.{free_name}
use Rattle.compiler.specs.cleanup.unnamed_intrinsics.Unnamed.{NamesNoIntrinsic, is_no_intrinsic, names_intrinsic}
use Rattle.ir_model.specs.declared.instr.Instr.{Instr}
use Rattle.ir_model.specs.declared.module.Block.{Block}
use Rattle.ir_model.specs.declared.module.Function.{Function}
use Rattle.ir_model.specs.declared.module.Module.{Module}
use Rattle.ir_model.specs.declared.operand.Arg.{Arg}
use Rattle.ir_model.specs.declared.operand.Callee.{Callee}
use Rattle.ir_model.specs.declared.operand.Operand.{Operand}
use Rattle.pass_proofs.proofs.ir_laws.facts.Truth.{and_both}
use Rattle.pass_proofs.proofs.rule_laws.rules.given_calls.Carried.{Carries, carried}
use Rattle.pass_proofs.specs.ir_parts.Contents.{arg_operands}
use Rattle.pass_proofs.specs.ir_parts.Parts.{OfInstr}
use Rattle.pass_proofs.specs.rule_laws.rules.given_calls.Given.{AreGivenBlocks, frame_arg, given_by, with_blocks}

operands_free_now : (args : List Arg) (n : ℕ) → list_all is_no_intrinsic (arg_operands args) ≡ true
    → list_all is_no_intrinsic (arg_operands (args ++ frame_arg n ∷ [])) ≡ true
operands_free_now args n e =
    ap (list_all is_no_intrinsic) (map-append (λ (a : Arg). a.value) args (frame_arg n ∷ []))
    ∙ list_all-append is_no_intrinsic (arg_operands args) (Operand.Local n ∷ [])
    ∙ and_both (list_all is_no_intrinsic (arg_operands args)) true e refl

names_carried : (m : Module) (k : ℕ) (f : Function) (cs : List Block) → Carries m k f cs names_intrinsic names_intrinsic
names_carried m k f cs =
    record {
      signature = λ p e. e;
      head = λ p b js e. refl;
      phi = λ p x e. e;
      instr = λ p i e. e;
      call = λ p r ty x y args n may there kind e.
          named_by p (OfInstr (given_by r ty y args n))
          (operands_free_now args n (operands_free p (OfInstr (Instr.Call r false ty (Callee.Named x) args)) e))
          (free_name y may.usual);
      ending = λ p t e. e;
    }

pub given_free : (m : Module) (k : ℕ) (f : Function) (cs : List Block) → AreGivenBlocks m k f 0 f.blocks cs
    → NamesNoIntrinsic k f → NamesNoIntrinsic k (with_blocks cs f)
given_free m k f cs given = carried m k f cs names_intrinsic names_intrinsic (names_carried m k f cs) given
