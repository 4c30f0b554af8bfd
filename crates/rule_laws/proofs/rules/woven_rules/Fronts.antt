-- Allocas at the front of the entry block are woven in.
use Rattle.std.proofs.Common.{◌≡◌, inr, ℕ, zero, suc, ◌+◌, ◌<◌, ◌≤◌, false, List, [], ◌∷◌, ◌++◌, length, refl, sym, ap, ◌∙◌, subst, arith}
use Rattle.std.proofs.lemmas.List.{length-append}
use Rattle.std.specs.Prelude.{Some, slice_get, ◌==◌}
use Rattle.ir_laws.specs.ir_base.declared.name.Name.{Name}
use Rattle.rule_uses.specs.Undefined.{params_of}
use Rattle.rule_uses.specs.Uses.{block_values, made_by_instrs, phi_values, values_at}
use Rattle.rule_laws.proofs.rules.source_rules.Locals.{block_names, made_by}
use Rattle.ir_laws.proofs.paths.source_rules.Locals.{listed_left, listed_right}
use Rattle.ir_laws.proofs.facts.Lists.{phi_names, row_of, times_joined}
use Rattle.ir_laws.specs.flow_solver.Paths.{IsListed}
use Rattle.ir_parts.specs.Contents.{ending_operands, instr_operands}
use Rattle.rule_laws.specs.rules.function_rules.Kept.{KeepsFunctionRulesAt}
use Rattle.ir_laws.specs.ir_model.Names.{position_of}
use Rattle.ir_laws.specs.ir_model.declared.instr.Instr.{Instr}
use Rattle.ir_laws.specs.ir_model.declared.module.Block.{Block}
use Rattle.ir_laws.specs.ir_model.declared.module.Function.{Function}
use Rattle.ir_laws.specs.ir_model.declared.module.Module.{Module}
use Rattle.ir_laws.specs.ir_model.declared.operand.Operand.{Operand}
use Rattle.ir_laws.specs.ir_locals.Tables.{first_in}
use Rattle.rule_values.specs.Kinds.{block_kind}
use Rattle.rule_laws.proofs.rules.woven_rules.All.{rules_woven_by}
use Rattle.rule_laws.proofs.rules.woven_rules.Once.{apart_once, names_below, times_block}
use Rattle.ir_laws.proofs.paths.woven_rules.Once.{times_none}
use Rattle.ir_laws.proofs.facts.Members.{each_all}
use Rattle.rule_laws.proofs.rules.woven_rules.Operands.{term_itself}
use Rattle.rule_laws.proofs.rules.woven_rules.Pieces.{listed_woven, phis_itself, still_stays}
use Rattle.rule_laws.proofs.rules.woven_rules.Told.{told}
use Rattle.ir_laws.proofs.paths.woven_rules.Unbroken.{of_listed}
use Rattle.rule_laws.specs.rules.woven_rules.Blocks.{AreWoven, AreWovenBlocks, Done, IsNew, IsPutIn, IsWoven, IsWovenBlock, NoBlock, OneBlock, Remain, times_made}
use Rattle.rule_laws.specs.rules.woven_rules.Fronts.{FrontFits, IsNewAlloca, results_of, with_front, with_front_block}
use Rattle.ir_laws.specs.facts.woven_rules.Pairs.{Pairwise, one_if, times}
use Rattle.rule_laws.specs.rules.woven_rules.Parts.{PhiStays}
use Rattle.ir_laws.specs.facts.woven_rules.Parts.{TermStays}
use Rattle.rule_laws.specs.rules.woven_rules.Weaving.{IsInPlace, Same, Weaving, goes_in}
use Rattle.rule_names.specs.declared.stage.Stage.{Stage}

results_row : (is : List Instr) → results_of is ≡ row_of made_by is
results_row [] = refl
results_row (i ∷ is) = λ k. made_by i ++ results_row is k

row_joined : (n : ℕ) (is js : List Instr) → times n (row_of made_by (is ++ js)) ≡ times n (row_of made_by is) + times n (row_of made_by js)
row_joined n [] js = omega arith
row_joined n (i ∷ is) js =
    let rest : times n (row_of made_by (is ++ js)) ≡ times n (row_of made_by is) + times n (row_of made_by js) = row_joined n is js in
    let a : times n (made_by i ++ row_of made_by (is ++ js)) ≡ times n (made_by i) + times n (row_of made_by (is ++ js)) = times_joined n (made_by i) (row_of made_by (is ++ js)) in
    let b : times n (made_by i ++ row_of made_by is) ≡ times n (made_by i) + times n (row_of made_by is) = times_joined n (made_by i) (row_of made_by is) in
    omega (arith, rest, a, b)

made_old : (n : ℕ) (bs : List Block) → times n (row_of block_names bs) ≡ 0 → times_made n bs ≡ 0
made_old n [] none = refl
made_old n (b ∷ bs) none =
    let a : times n (block_names b ++ row_of block_names bs) ≡ times n (block_names b) + times n (row_of block_names bs) = times_joined n (block_names b) (row_of block_names bs) in
    let rest : times_made n bs ≡ 0 = made_old n bs (omega (arith, a, none)) in
    let here : one_if (b.label == n) + times n (phi_names b.phis ++ row_of made_by b.instrs) ≡ 0 = omega (arith, a, none) in
    let d : times n (phi_names b.phis ++ row_of made_by b.instrs) ≡ times n (phi_names b.phis) + times n (row_of made_by b.instrs) = times_joined n (phi_names b.phis) (row_of made_by b.instrs) in
    let e : times n (block_values b) ≡ times n (phi_names b.phis) + times n (row_of made_by b.instrs) = times_block n b in
    omega (arith, rest, here, d, e)

made_front : (n : ℕ) (front : List Instr) (bs : List Block) → times n (row_of block_names bs) ≡ 0 → times_made n (with_front_block front bs) ≤ times n (row_of made_by front)
made_front n front [] none = omega arith
made_front n front (b ∷ bs) none =
    let c : Block = record b { instrs = front ++ b.instrs } in
    let a : times n (block_names b ++ row_of block_names bs) ≡ times n (block_names b) + times n (row_of block_names bs) = times_joined n (block_names b) (row_of block_names bs) in
    let rest : times_made n bs ≡ 0 = made_old n bs (omega (arith, a, none)) in
    let here : one_if (b.label == n) + times n (phi_names b.phis ++ row_of made_by b.instrs) ≡ 0 = omega (arith, a, none) in
    let d : times n (phi_names b.phis ++ row_of made_by b.instrs) ≡ times n (phi_names b.phis) + times n (row_of made_by b.instrs) = times_joined n (phi_names b.phis) (row_of made_by b.instrs) in
    let e : times n (block_values c) ≡ times n (phi_names b.phis) + times n (row_of made_by (front ++ b.instrs)) = times_block n c in
    let g : times n (row_of made_by (front ++ b.instrs)) ≡ times n (row_of made_by front) + times n (row_of made_by b.instrs) = row_joined n front b.instrs in
    omega (arith, rest, here, d, e, g)

module _ (stage : Stage) (m : Module) (k : ℕ) (f : Function) (front : List Instr) (names : List Name)
    (keeps : KeepsFunctionRulesAt stage m k f) (fit : FrontFits stage m f front names) where
  abbrev G : Function
  G = with_front front names f

  abbrev W : Weaving
  W = record { stage = stage; first = length f.names; after = length f.names + length names; kinds = first_in block_kind G.blocks; fronts = []; goes = λ n. false }

  once : (n : ℕ) → length f.names ≤ n → times_made n G.blocks ≤ 1
  once n low =
      let none : times n (row_of block_names f.blocks) ≡ 0 = times_none n (row_of block_names f.blocks) (λ l. let high : n < length f.names = names_below k f keeps.tabled n (listed_right n (params_of f) (row_of block_names f.blocks) l) in absurd (omega (arith, high, low))) in
      let a : times_made n G.blocks ≤ times n (row_of made_by front) = made_front n front f.blocks none in
      let b : times n (results_of front) ≤ 1 = apart_once (results_of front) fit.different n in
      let c : times n (results_of front) ≡ times n (row_of made_by front) = ap (times n) (results_row front) in
      omega (arith, a, b, c)

  still : (x : Operand) → goes_in W x ≡ false
  still (Operand.Local v) = refl
  still _ = refl

  front_put : (b : Block) → slice_get G.blocks 0 ≡ Some (record b { instrs = front ++ b.instrs }) → (j : Instr) → IsListed j front → (now : List ℕ) → IsPutIn W m f 0 now j
  front_put b there j l now =
      let x = of_listed (IsNewAlloca stage m (length f.names) (length f.names + length names)) front fit.each j l in
      let i : Instr = Instr.Alloca x.name x.ty x.align in
      let c : Block = record b { instrs = front ++ b.instrs } in
      let inside : IsListed i c.instrs = listed_left i front b.instrs (subst (λ (y : Instr). IsListed y front) x.is l) in
      let new : IsNew W i x.name = record { low = x.low; high = x.high; kind = told x.name G (once x.name x.low) 0 c i there inside refl } in
      subst (IsPutIn W m f 0 now) (sym x.is)
      (record {
        result = λ n e. let same : x.name ≡ n = cc in subst (IsNew W i) same new;
        operands = tt;
        stands = refl;
        fits = x.tokenless;
        types = x.types;
        depths = x.depths;
        extents = x.extents;
        calls = λ p. refl;
      })

  instrs_stay : (at : ℕ) (made : List ℕ) (is : List Instr) → AreWoven W m f at made is is
  instrs_stay at made [] = Done made
  instrs_stay at made (i ∷ is) = Remain made i i is is (still_stays W f made i (each_all (λ (x : Operand). goes_in W x ≡ false) still (instr_operands i))) (instrs_stay at (made_by i ++ made) is)

  block_woven : (at : ℕ) (b c : Block) → c.label ≡ b.label → c.phis ≡ b.phis → c.term ≡ b.term → AreWoven W m f at (phi_values c) b.instrs c.instrs → IsWovenBlock W m f G at b c
  block_woven at b c label phis term instrs =
      record {
        label = label;
        phis = subst (λ qs. Pairwise (PhiStays (λ (from : ℕ). IsInPlace W f (values_at G (position_of G from)))) b.phis qs) (sym phis) (phis_itself (λ (from : ℕ). IsInPlace W f (values_at G (position_of G from))) (λ from x. Same x (still x)) b.phis);
        instrs = instrs;
        term = subst (λ e. TermStays (IsInPlace W f (block_values c)) b.term e) (sym term) (term_itself (IsInPlace W f (block_values c)) b.term (each_all (λ (x : Operand). IsInPlace W f (block_values c) x x) (λ x. Same x (still x)) (ending_operands b.term)));
      }

  others : (at : ℕ) (bs : List Block) → AreWovenBlocks W m f G at bs bs
  others at [] = NoBlock at
  others at (b ∷ bs) = OneBlock at b b bs bs (block_woven at b b refl refl refl (instrs_stay at (phi_values b) b.instrs)) (others (at + 1) bs)

  all_blocks : (bs : List Block) → f.blocks ≡ bs → AreWovenBlocks W m f G 0 bs (with_front_block front bs)
  all_blocks [] e = NoBlock 0
  all_blocks (b ∷ bs) e =
      let c : Block = record b { instrs = front ++ b.instrs } in
      let there : slice_get G.blocks 0 ≡ Some c = ap (λ (xs : List Block). slice_get (with_front_block front xs) 0) e in
      OneBlock 0 b c bs bs
      (block_woven 0 b c refl refl refl (listed_woven W m f 0 (phi_values b) front b.instrs b.instrs (λ j l now up. front_put b there j l now) (instrs_stay 0 (made_by_instrs (phi_values b) front) b.instrs)))
      (others (0 + 1) bs)

  pub front_woven : IsWoven W m f G
  front_woven =
      record {
        name = refl;
        result = refl;
        params = refl;
        coroutine = refl;
        first = refl;
        after = sym (length-append f.names names);
        grows = omega arith;
        blocks = all_blocks f.blocks refl;
        fronts = tt;
        once = once;
      }

  -- each block has the phis that it had
  phis_stay : (at : ℕ) (bs : List Block) (b c : Block) → slice_get bs at ≡ Some b
      → slice_get (with_front_block front bs) at ≡ Some c → c.phis ≡ b.phis
  phis_stay at [] b c d e = absurd (cc)
  phis_stay zero (x ∷ bs) b c d e =
      let old : x ≡ b = cc in
      let new : record x { instrs = front ++ x.instrs } ≡ c = cc in
      ap (λ (y : Block). y.phis) (sym new) ∙ ap (λ (y : Block). y.phis) old
  phis_stay (suc at) (x ∷ bs) b c d e =
      let both : Some c ≡ Some b = sym e ∙ d in
      let same : c ≡ b = cc in
      ap (λ (y : Block). y.phis) same

  pub front_keeps : KeepsFunctionRulesAt stage m k G
  front_keeps =
      rules_woven_by W m k f G front_woven keeps (λ at b c there stands. inr (phis_stay at f.blocks b c there stands))
