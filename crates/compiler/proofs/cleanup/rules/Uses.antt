-- Uses keep their definitions (rule F2): what is left is the function with instructions taken out whose values nobody uses.
use Rattle.std.proofs.Common.{◌≡◌, ℕ, ◌+◌, ◌≤◌, Bool, true, false, List, [], ◌∷◌, ◌++◌, length, refl, ap, ◌∙◌, subst, arith, Option, Some, None}
use Rattle.std.proofs.lemmas.Bool.{and_parts, eq-eqb, or_left, or_right}
use Rattle.std.specs.List.{list_all, list_any}
use Rattle.std.specs.Prelude.{filter, map, not, option_to_list, cond}
use Rattle.pass_proofs.specs.flow_blocks.Edges.{block_edges, edges_of_blocks}
use Rattle.ir_base.specs.declared.outcome.Place.{Place}
use Rattle.pass_cleanup.proofs.Parts.{position_clean}
use Rattle.pass_cleanup.specs.Cleanup.{clean_block, clean_function, is_kept_instr}
use Rattle.compiler.proofs.cleanup.rules.Carried.{NoneIn, head_out, left_of, parts_out}
use Rattle.compiler.proofs.cleanup.rules.Definitions.{definitions_clean, gone_in}
use Rattle.compiler.specs.cleanup.rules.Clean.{NamesNothingGone, goes, goes_with, is_left, is_number, names_gone}
use Rattle.pass_proofs.specs.rule_uses.Undefined.{IsFirstUndefined, params_of}
use Rattle.pass_proofs.specs.rule_uses.Uses.{block_values, phi_values, uses_of, values_at}
use Rattle.pass_proofs.proofs.rule_laws.rules.local_rules.Names.{numbers}
use Rattle.pass_proofs.proofs.rule_laws.rules.local_rules.Woven.{apart_names}
use Rattle.pass_proofs.proofs.ir_laws.paths.source_rules.Locals.{Apart}
use Rattle.pass_proofs.proofs.rule_laws.rules.source_rules.Locals.{block_names, made_by, names_are}
use Rattle.pass_proofs.proofs.ir_laws.facts.Lists.{phi_names, row_of, times_joined}
use Rattle.pass_proofs.specs.ir_parts.Contents.{ending_operands, instr_operands, result_of}
use Rattle.pass_proofs.specs.ir_parts.Locals.{locals_of}
use Rattle.pass_proofs.specs.ir_parts.Parts.{Ending, Head, OfInstr, OfPhi, Part, Signature, block_parts, block_place, blocks_parts, function_place, instr_parts, instr_place, phi_parts}
use Rattle.ir_model.specs.Names.{position_of}
use Rattle.ir_model.specs.declared.instr.Incoming.{Incoming}
use Rattle.ir_model.specs.declared.instr.Instr.{Instr}
use Rattle.ir_model.specs.declared.instr.Phi.{Phi}
use Rattle.ir_model.specs.declared.module.Block.{Block}
use Rattle.ir_model.specs.declared.module.Function.{Function}
use Rattle.ir_model.specs.declared.module.Module.{Module}
use Rattle.ir_model.specs.declared.operand.Operand.{Operand}
use Rattle.pass_proofs.specs.ir_paths.Paths.{targets}
use Rattle.pass_proofs.specs.rule_names.Definitions.{first_twice}
use Rattle.pass_proofs.specs.run_laws.changed.Changed.{Each}
use Rattle.pass_proofs.proofs.rule_laws.rules.woven_rules.Once.{apart_once, times_block}
use Rattle.pass_proofs.proofs.ir_laws.facts.Members.{each_passes, each_turns}
use Rattle.pass_proofs.proofs.rule_laws.rules.woven_rules.Operands.{instr_itself, term_itself}
use Rattle.pass_proofs.proofs.rule_laws.rules.woven_rules.Uses.{uses_woven}
use Rattle.pass_proofs.specs.rule_laws.rules.woven_rules.Blocks.{AreWoven, AreWovenBlocks, Done, Gone, IsWoven, IsWovenBlock, Kept, NoBlock, OneBlock, Remain, times_made}
use Rattle.pass_proofs.specs.ir_laws.facts.woven_rules.Pairs.{Empty, Pair, Pairwise, times}
use Rattle.pass_proofs.specs.rule_laws.rules.woven_rules.Parts.{IncomingStays, PhiStays}
use Rattle.pass_proofs.specs.rule_laws.rules.woven_rules.Weaving.{IsInPlace, Same, Weaving, goes_in}
use Rattle.pass_proofs.specs.rule_names.declared.stage.Stage.{Stage}

-- what blocks make stands among their names
made_least : (v : ℕ) (bs : List Block) → times_made v bs ≤ times v (row_of block_names bs)
made_least v [] = omega arith
made_least v (b ∷ bs) =
    let more : times_made v bs ≤ times v (row_of block_names bs) = made_least v bs in
    let e : times v (block_names b ++ row_of block_names bs) ≡ times v (block_names b) + times v (row_of block_names bs) = times_joined v (block_names b) (row_of block_names bs) in
    let d : times v (phi_names b.phis ++ row_of made_by b.instrs) ≡ times v (phi_names b.phis) + times v (row_of made_by b.instrs) = times_joined v (phi_names b.phis) (row_of made_by b.instrs) in
    let made : times v (block_values b) ≡ times v (phi_names b.phis) + times v (row_of made_by b.instrs) = times_block v b in
    omega (arith, more, e, d, made)

module _ (m : Module) (k : ℕ) (f : Function) where
  abbrev g : Function
  g = clean_function f

  abbrev w : Weaving
  w = record { stage = Stage.Plain; first = length f.names; after = length f.names; kinds = λ v. None; fronts = []; goes = goes f }

  not_gone : (x : Operand) → is_left f x ≡ true → goes_in w x ≡ false
  not_gone (Operand.Local v) e = on (goes f v) e
    where
      on : (b : Bool) → not b ≡ true → b ≡ false
      on true h = absurd (cc)
      on false h = refl
  not_gone (Operand.Global x) e = refl
  not_gone (Operand.Number z) e = refl
  not_gone Operand.True e = refl
  not_gone Operand.False e = refl
  not_gone Operand.Null e = refl
  not_gone Operand.None e = refl
  not_gone Operand.Poison e = refl

  all_stay : (xs : List Operand) → list_all (is_left f) xs ≡ true → Each (λ (x : Operand). goes_in w x ≡ false) xs
  all_stay xs e = each_turns (λ (x : Operand). is_left f x ≡ true) (λ (x : Operand). goes_in w x ≡ false) not_gone xs (each_passes (is_left f) xs e)

  all_same : (made : List ℕ) (xs : List Operand) → list_all (is_left f) xs ≡ true → Each (λ (x : Operand). IsInPlace w f made x x) xs
  all_same made xs e = each_turns (λ (x : Operand). goes_in w x ≡ false) (λ (x : Operand). IsInPlace w f made x x) (λ x h. Same x h) xs (all_stay xs e)

  -- ---- parts

  abbrev FromBlock : ℕ → Operand → Operand → Type 0
  FromBlock from = IsInPlace w f (values_at g (position_of g from))

  incoming_same : (is : List Incoming) → list_all (is_left f) (map (λ (i : Incoming). i.value) is) ≡ true → Pairwise (IncomingStays FromBlock) is is
  incoming_same [] e = Empty
  incoming_same (i ∷ is) e =
      let both = and_parts (is_left f i.value) (list_all (is_left f) (map (λ (j : Incoming). j.value) is)) e in
      Pair i i is is (record { from = refl; value = Same i.value (not_gone i.value both.0) }) (incoming_same is both.1)

  phis_same : (block at : ℕ) (ps : List Phi) → NoneIn (names_gone f) (phi_parts k block at ps) → Pairwise (PhiStays FromBlock) ps ps
  phis_same block at [] u = Empty
  phis_same block at (p ∷ ps) u =
      let both = head_out (names_gone f) (instr_place k block at) (OfPhi p) (phi_parts k block (at + 1) ps) u in
      Pair p p ps ps
      (record { result = refl; ty = refl; incoming = incoming_same p.incoming (left_of f (instr_place k block at) (OfPhi p) both.0).0 }) (phis_same block (at + 1) ps both.1)

  one_woven : (kept : Bool) (block : ℕ) (made : List ℕ) (i : Instr) (is js : List Instr) → list_all (is_left f) (instr_operands i) ≡ true → (kept ≡ false → (v : ℕ) → result_of i ≡ Some v → goes f v ≡ true) → ((next : List ℕ) → AreWoven w m f block next is js) → AreWoven w m f block made (i ∷ is) (cond kept (i ∷ js) js)
  one_woven true block made i is js left gone more =
      Remain made i i is js
      (Kept i i (instr_itself (IsInPlace w f made) i (all_same made (instr_operands i) left)) (λ mark. record { same = refl; slot = all_stay (instr_operands i) left }))
      (more (option_to_list (result_of i) ++ made))
  one_woven false block made i is js left gone more = Gone made i is js (gone refl) (more made)

  instrs_woven : (block at : ℕ) (made : List ℕ) (is : List Instr) → ((v : ℕ) → list_any (goes_with v) is ≡ true → goes f v ≡ true) → NoneIn (names_gone f) (instr_parts k block at is) → AreWoven w m f block made is (filter is_kept_instr is)
  instrs_woven block at made [] h u = Done made
  instrs_woven block at made (i ∷ is) h u =
      let both = head_out (names_gone f) (instr_place k block at) (OfInstr i) (instr_parts k block (at + 1) is) u in
      one_woven (is_kept_instr i) block made i is (filter is_kept_instr is) (left_of f (instr_place k block at) (OfInstr i) both.0).0
      (λ e v r. h v (gone_in k f i is v e (ap (λ (o : Option ℕ). is_number o v) r ∙ eq-eqb v v refl)))
      (λ next. instrs_woven block (at + 1) next is (λ v l. h v (or_right (goes_with v i) (list_any (goes_with v) is) l)) both.1)

  block_woven : (block : ℕ) (b : Block) → ((v : ℕ) → list_any (goes_with v) b.instrs ≡ true → goes f v ≡ true) → NoneIn (names_gone f) (block_parts k block b) → IsWovenBlock w m f g block b (clean_block b)
  unfolding block_parts
  block_woven block b h u =
      let phis : List (Place × Part) = phi_parts k block 0 b.phis in
      let instrs : List (Place × Part) = instr_parts k block (length b.phis) b.instrs in
      let at : ℕ = length b.phis + length b.instrs in
      let ending : List (Place × Part) = (instr_place k block at, Ending b.term) ∷ [] in
      let u1 = head_out (names_gone f) (block_place k block) (Head b) (phis ++ (instrs ++ ending)) u in
      let u2 = parts_out (names_gone f) phis (instrs ++ ending) u1.1 in
      let u3 = parts_out (names_gone f) instrs ending u2.1 in
      let u4 = head_out (names_gone f) (instr_place k block at) (Ending b.term) [] u3.1 in
      record {
        label = refl;
        phis = phis_same block 0 b.phis u2.0;
        instrs = instrs_woven block (length b.phis) (phi_values b) b.instrs h u3.0;
        term = term_itself (IsInPlace w f (block_values (clean_block b))) b.term (all_same (block_values (clean_block b)) (ending_operands b.term) (left_of f (instr_place k block at) (Ending b.term) u4.0).0);
      }

  blocks_woven : (block : ℕ) (bs : List Block) → ((v : ℕ) → list_any (λ b. list_any (goes_with v) b.instrs) bs ≡ true → goes f v ≡ true) → NoneIn (names_gone f) (blocks_parts k block bs) → AreWovenBlocks w m f g block bs (map clean_block bs)
  blocks_woven block [] h u = NoBlock block
  blocks_woven block (b ∷ bs) h u =
      let both = parts_out (names_gone f) (block_parts k block b) (blocks_parts k (block + 1) bs) u in
      OneBlock block b (clean_block b) bs (map clean_block bs)
      (block_woven block b (λ v l. h v (or_left (list_any (goes_with v) b.instrs) (list_any (λ c. list_any (goes_with v) c.instrs) bs) l)) both.0)
      (blocks_woven (block + 1) bs (λ v l. h v (or_right (list_any (goes_with v) b.instrs) (list_any (λ c. list_any (goes_with v) c.instrs) bs) l)) both.1)

  -- ---- the function

  made_once : first_twice [] (locals_of k f) ≡ None → (v : ℕ) → times_made v g.blocks ≤ 1
  made_once twice v =
      let once : (n : ℕ) → times n (numbers g) ≤ 1 = apart_once (numbers g) (subst Apart (names_are k g) (apart_names [] (locals_of k g) (definitions_clean k f twice))) in
      let most : times v (numbers g) ≤ 1 = once v in
      let all : times v (numbers g) ≡ times v (params_of g) + times v (row_of block_names g.blocks) = times_joined v (params_of g) (row_of block_names g.blocks) in
      let less : times_made v g.blocks ≤ times v (row_of block_names g.blocks) = made_least v g.blocks in
      omega (arith, most, all, less)

  is_woven : NamesNothingGone k f → first_twice [] (locals_of k f) ≡ None → IsWoven w m f g
  is_woven u twice =
      record {
        name = refl;
        result = refl;
        params = refl;
        coroutine = refl;
        first = refl;
        after = refl;
        grows = omega arith;
        blocks = blocks_woven 0 f.blocks (λ v l. l) (head_out (names_gone f) (function_place k) (Signature f) (blocks_parts k 0 f.blocks) u).1;
        fronts = tt;
        once = λ v low. made_once twice v;
      }

  same_edges : block_edges g ≡ block_edges f
  unfolding block_edges
  same_edges = each 0 f.blocks
    where
      each : (block : ℕ) (bs : List Block) → edges_of_blocks g block (map clean_block bs) ≡ edges_of_blocks f block bs
      each block [] = refl
      each block (b ∷ bs) = λ i. map (λ to. (block, to)) (map (λ label. position_clean f label i) (targets b.term)) ++ each (block + 1) bs i

  pub uses_clean : NamesNothingGone k f → first_twice [] (locals_of k f) ≡ None → IsFirstUndefined f (uses_of k f) None → IsFirstUndefined g (uses_of k g) None
  uses_clean u twice = uses_woven w m f g (is_woven u twice) same_edges (position_clean f) k
