-- The types of values (rule Y1).
use Rattle.std.proofs.Common.{◌≡◌, ℕ, Bool, true, false, List, [], ◌∷◌, refl, sym, ap, ◌∙◌, Option, Some, None}
use Rattle.std.proofs.lemmas.Bool.{or_parts}
use Rattle.std.specs.List.{list_all, list_any}
use Rattle.std.specs.Prelude.{map, not, if◌then◌else◌, ◌&&◌}
use Rattle.pass_cleanup.specs.Cleanup.{clean_block, clean_function, clean_module, is_kept_instr}
use Rattle.compiler.proofs.cleanup.rules.Carried.{carried}
use Rattle.compiler.proofs.cleanup.rules.Rules.{first_left, stays_there}
use Rattle.compiler.specs.cleanup.rules.Clean.{NamesNothingGone, goes, goes_with, is_left, is_number}
use Rattle.pass_proofs.specs.ir_parts.Contents.{part_operands}
use Rattle.pass_proofs.specs.ir_parts.Parts.{Ending, OfInstr, OfPhi}
use Rattle.ir_model.specs.Ty.{Ty, array, int, named, ptr, structure, token}
use Rattle.ir_model.specs.Layout.{unnamed}
use Rattle.ir_model.specs.declared.instr.Incoming.{Incoming}
use Rattle.ir_model.specs.declared.instr.Instr.{Instr}
use Rattle.ir_model.specs.declared.module.Block.{Block}
use Rattle.ir_model.specs.declared.module.Function.{Function}
use Rattle.ir_model.specs.declared.module.Module.{Module}
use Rattle.ir_model.specs.declared.operand.Arg.{Arg}
use Rattle.ir_model.specs.declared.operand.Operand.{Operand}
use Rattle.pass_proofs.specs.ir_locals.Tables.{first_in, or_first}
use Rattle.pass_proofs.specs.run_laws.changed.Changed.{Each}
use Rattle.pass_proofs.specs.rule_values.Fits.{fits, fits_integer, is_tokenless}
use Rattle.pass_proofs.specs.rule_values.Geps.{indices_fit, inner_part, leads_in, part_of}
use Rattle.pass_proofs.specs.rule_values.Instrs.{fits_instr}
use Rattle.pass_proofs.specs.rule_values.Kinds.{block_kind, call_kind, instr_kind, param_kind, phi_kind, result_kind, value_kind}
use Rattle.pass_proofs.specs.rule_values.Values.{breaks_values, first_wrong_value}
use Rattle.pass_proofs.specs.rule_values.declared.kinds.Kind.{Kind}
use Rattle.pass_proofs.proofs.rule_laws.rules.woven_rules.Alike.{IsAlike, Local, Other, instr_alike, phi_alike, term_alike}
use Rattle.pass_proofs.proofs.ir_laws.facts.Members.{each_passes, each_turns}
use Rattle.pass_proofs.proofs.rule_laws.rules.woven_rules.Operands.{instr_itself, term_itself}
use Rattle.pass_proofs.specs.ir_laws.facts.woven_rules.Pairs.{Empty, Pair, Pairwise}
use Rattle.pass_proofs.specs.rule_laws.rules.woven_rules.Parts.{IncomingStays}

-- ---- kinds

no_kind : (r : Option ℕ) (kind : Kind) (v : ℕ) → is_number r v ≡ false → call_kind r kind v ≡ None
no_kind None kind v e = refl
no_kind (Some r) kind v e = ap (λ (b : Bool). if b then Some kind else None) e

gone_kind : (i : Instr) (v : ℕ) → is_kept_instr i ≡ false → goes_with v i ≡ false → instr_kind i v ≡ None
gone_kind (Instr.Call r must_tail ty callee args) v e d =
    no_kind r (result_kind callee ty) v (sym (ap (λ (b : Bool). not b && is_number r v) e) ∙ d)
gone_kind _ v e d = absurd (cc)

module _ (m : Module) (k : ℕ) (f : Function) where
  abbrev n : Module
  n = clean_module m

  abbrev g : Function
  g = clean_function f

  pub kind_same : (v : ℕ) → goes f v ≡ false → value_kind g v ≡ value_kind f v
  kind_same v stays = ap (or_first (first_in param_kind f.params v)) (each f.blocks stays)
    where
      each : (bs : List Block) → list_any (λ b. list_any (goes_with v) b.instrs) bs ≡ false → first_in block_kind (map clean_block bs) v ≡ first_in block_kind bs v
      each [] e = refl
      each (b ∷ bs) e =
          let both = or_parts (list_any (goes_with v) b.instrs) (list_any (λ c. list_any (goes_with v) c.instrs) bs) e in
          λ i. or_first (or_first (first_in phi_kind b.phis v) (first_left instr_kind instr_kind (goes_with v) v (λ x. refl) (λ x. gone_kind x v) b.instrs both.0 i)) (each bs both.1 i)

  abbrev Alike : Operand → Operand → Type 0
  Alike = IsAlike (value_kind f) (value_kind g)

  alike : (x : Operand) → is_left f x ≡ true → Alike x x
  alike (Operand.Local v) e = Local v v (kind_same v (stays_there m k f v e))
  alike (Operand.Global x) e = Other (Operand.Global x) refl
  alike (Operand.Number z) e = Other (Operand.Number z) refl
  alike Operand.True e = Other Operand.True refl
  alike Operand.False e = Other Operand.False refl
  alike Operand.Null e = Other Operand.Null refl
  alike Operand.None e = Other Operand.None refl
  alike Operand.Poison e = Other Operand.Poison refl

  all_alike : (xs : List Operand) → list_all (is_left f) xs ≡ true → Each (λ (x : Operand). Alike x x) xs
  all_alike xs e = each_turns (λ (x : Operand). is_left f x ≡ true) (λ (x : Operand). Alike x x) alike xs (each_passes (is_left f) xs e)

  incoming_alike : (is : List Incoming) → Each (λ (x : Operand). Alike x x) (map (λ (i : Incoming). i.value) is) → Pairwise (IncomingStays (λ (from : ℕ). Alike)) is is
  incoming_alike [] h = Empty
  incoming_alike (i ∷ is) h = Pair i i is is (record { from = refl; value = h.0 }) (incoming_alike is h.1)

  -- ---- types

  unnamed_same : (t : Ty) → unnamed n t ≡ unnamed m t
  unnamed_same (int w) = refl
  unnamed_same ptr = refl
  unnamed_same token = refl
  unnamed_same (array c t) = refl
  unnamed_same (structure ts) = refl
  unnamed_same (named x) = refl

  inner_same : (t : Option Ty) (a : Arg) → inner_part n t a ≡ inner_part m t a
  inner_same None a = refl
  inner_same (Some t) a = ap (λ (u : Ty). part_of u a) (unnamed_same t)

  leads_same : (t : Option Ty) (args : List Arg) → leads_in n t args ≡ leads_in m t args
  leads_same t [] = refl
  leads_same t (a ∷ args) = ap (λ (u : Option Ty). leads_in n u args) (inner_same t a) ∙ leads_same (inner_part m t a) args

  indices_same : (t : Ty) (args : List Arg) → indices_fit n t args ≡ indices_fit m t args
  indices_same t [] = refl
  indices_same t (a ∷ args) = leads_same (Some t) args

  instr_same : (kinds : ℕ → Option Kind) (i : Instr) → fits_instr n kinds i ≡ fits_instr m kinds i
  instr_same kinds (Instr.Gep r inbounds ty base indices) = ap (λ (b : Bool). (is_tokenless ty && fits kinds ptr base) && (list_all (fits_integer kinds) indices && b)) (indices_same ty indices)
  instr_same kinds _ = refl

  -- ---- the rule

  pub values_clean : NamesNothingGone k f → first_wrong_value m k f ≡ None → first_wrong_value n k g ≡ None
  values_clean =
      carried k f (breaks_values m (value_kind f) f.result) (breaks_values n (value_kind g) f.result)
      (record {
        signature = λ e. e;
        head = λ block b e. refl;
        phi = λ p x u e. ap not (phi_alike m (value_kind f) (value_kind g) x x (record { result = refl; ty = refl; incoming = incoming_alike x.incoming (all_alike (part_operands (OfPhi x)) u.0) })) ∙ e;
        instr = λ block at to i stays u e.
            ap not (instr_same (value_kind g) i ∙ instr_alike m (value_kind f) (value_kind g) i i (instr_itself Alike i (all_alike (part_operands (OfInstr i)) u.0))) ∙ e;
        ending = λ block at to t u e. ap not (term_alike m (value_kind f) (value_kind g) f.result t t (term_itself Alike t (all_alike (part_operands (Ending t)) u.0))) ∙ e;
      })
