-- The instructions of a block are woven.
use Rattle.std.proofs.Common.{◌≡◌, inl, ℕ, ◌≤◌, true, false, List, [], ◌∷◌, ◌++◌, refl, sym, ap, subst}
use Rattle.std.specs.List.{list_all}
use Rattle.std.specs.Prelude.{Option, None, option_to_list, slice_get}
use Rattle.pass_fetch_proof.proofs.cells.rules.Around.{saved_low, saved_put, stored_result_put}
use Rattle.pass_fetch_proof.proofs.cells.rules.Fetched.{AreAtHand, AreFetches, AreInPlace, IsFetch, all_fetches, all_in_place, fetches_put, instr_stays, operands_low, still_at_hand}
use Rattle.pass_edges_proof.proofs.rule_laws.rules.counted.Indices.{AreMadeBefore}
use Rattle.pass_fetch_proof.proofs.cells.rules.Indices.{behind_low, behind_put}
use Rattle.pass_edges_proof.proofs.rule_laws.rules.counted.Lists.{AreAmong, among_both, made_grows, made_listed}
use Rattle.pass_fetch_proof.proofs.cells.rules.Planned.{IsPlanned, planned_fetches, unplaced_fetch}
use Rattle.pass_edges_proof.proofs.rule_laws.rules.counted.Puts.{all_put, puts_woven}
use Rattle.pass_fetch_proof.proofs.cells.rules.Single.{IsSound, IsTold}
use Rattle.pass_fetch_proof.proofs.cells.rules.Spread.{spread}
use Rattle.pass_edges_proof.specs.ir_laws.facts.counted.Widths.{has_width}
use Rattle.pass_edges_proof.specs.rule_uses.Uses.{local_of, locals_in, made_by_instrs}
use Rattle.pass_edges_proof.proofs.ir_laws.facts.Members.{each_left, each_right}
use Rattle.pass_edges_proof.proofs.ir_laws.paths.source_rules.Locals.{listed_left, listed_right}
use Rattle.pass_edges_proof.proofs.rule_laws.rules.source_rules.Locals.{made_by}
use Rattle.pass_edges_proof.proofs.ir_laws.facts.Lists.{row_of}
use Rattle.pass_edges_proof.specs.flow_solver.Paths.{IsListed}
use Rattle.pass_edges_proof.specs.ir_parts.Contents.{arg_operands, instr_operands, instr_types, result_of}
use Rattle.ir_model.specs.declared.instr.Instr.{Instr}
use Rattle.ir_model.specs.declared.module.Function.{Function}
use Rattle.ir_model.specs.declared.module.Module.{Module}
use Rattle.ir_model.specs.declared.operand.Arg.{Arg}
use Rattle.ir_model.specs.declared.operand.Callee.{Callee}
use Rattle.ir_model.specs.declared.operand.Operand.{Operand}
use Rattle.pass_edges_proof.specs.run_laws.changed.Changed.{Each}
use Rattle.pass_edges_proof.specs.pass_fetch.Fetching.{fetch_at, fetched_args, fetched_operand, fetches_of_all, next_after, operand_by}
use Rattle.pass_edges_proof.specs.pass_fetch.Instrs.{next_after_instr, with_fetched}
use Rattle.pass_edges_proof.specs.pass_fetch.declared.fetch.Fetch.{Fetch}
use Rattle.pass_edges_proof.specs.pass_cells.Cells.{fetches_of}
use Rattle.pass_edges_proof.specs.pass_cells.Kept.{entry}
use Rattle.pass_edges_proof.specs.pass_cells.Moves.{after_saved, saved_values}
use Rattle.pass_edges_proof.specs.pass_cells.Written.{after_one, distance_behind, save_row, stored_result}
use Rattle.pass_edges_proof.specs.pass_cells.declared.plan.Plan.{Plan}
use Rattle.pass_edges_proof.specs.rule_values.Instrs.{fits_instr}
use Rattle.pass_edges_proof.specs.rule_values.Kinds.{value_kind}
use Rattle.pass_edges_proof.specs.rule_laws.rules.woven_rules.Blocks.{AreWoven, Kept, Remain, Stays, is_mark}
use Rattle.pass_edges_proof.specs.rule_laws.rules.woven_rules.Weaving.{Weaving, goes_in}

-- What is known of an instruction of the function in a block that makes some values before it: types, uses, and that a marker marks nothing that is kept.
pub record IsGood (m : Module) (f : Function) (p : Plan) (block : ℕ) (before : List ℕ) (i : Instr) : Type 0 where
  pub fits : fits_instr m (value_kind f) i ≡ true
  pub widths : list_all has_width (instr_types i) ≡ true
  pub uses : AreMadeBefore f block before (instr_operands i)
  pub mark : is_mark i ≡ true → (v : ℕ) → IsListed v (locals_in (instr_operands i)) → entry p.places v ≡ None

abbrev pub AreGood : Module → Function → Plan → ℕ → List ℕ → List Instr → Type 0
AreGood m f p block before [] = Unit {0}
AreGood m f p block before (i ∷ is) = IsGood m f p block before i × AreGood m f p block (option_to_list (result_of i) ++ before) is

-- ---- an instruction of whose operands none is fetched

module _ (t : List (Option Fetch)) where
  operand_alone : (n : ℕ) (x : Operand) (vs : List ℕ) → ((v : ℕ) → IsListed v (option_to_list (local_of x) ++ vs) → fetch_at (slice_get t v) ≡ None) → fetched_operand t n x ≡ x
  operand_alone n (Operand.Local v) vs h = ap (λ (o : Option Fetch). operand_by n o (Operand.Local v)) (h v (inl refl))
  operand_alone n _ vs h = refl

  args_alone : (n : ℕ) (args : List Arg) → ((v : ℕ) → IsListed v (locals_in (arg_operands args)) → fetch_at (slice_get t v) ≡ None) → fetched_args t n args ≡ args
  args_alone n [] h = refl
  args_alone n (a ∷ args) h =
      λ k. record { ty = a.ty; value = operand_alone n a.value (locals_in (arg_operands args)) h k }
      ∷ args_alone (next_after t n a.value) args (λ v l. h v (listed_right v (option_to_list (local_of a.value)) (locals_in (arg_operands args)) l)) k

  marker_alone : (n : ℕ) (i : Instr) → is_mark i ≡ true → ((v : ℕ) → IsListed v (locals_in (instr_operands i)) → fetch_at (slice_get t v) ≡ None) → with_fetched t n i ≡ i
  marker_alone n (Instr.Call r must_tail ty (Callee.Intrinsic c) args) e h = ap (Instr.Call r must_tail ty (Callee.Intrinsic c)) (args_alone n args h)
  marker_alone n (Instr.Call r must_tail ty (Callee.Named c) args) e h = absurd (cc)
  marker_alone n (Instr.Call r must_tail ty (Callee.Allocator c) args) e h = absurd (cc)
  marker_alone n (Instr.Call r must_tail ty (Callee.Local c) args) e h = absurd (cc)
  marker_alone n _ e h = absurd (cc)

  pub same_made : (n : ℕ) (i : Instr) → result_of (with_fetched t n i) ≡ result_of i
  same_made n (Instr.Binary r op flags ty a b) = refl
  same_made n (Instr.Icmp r pred ty a b) = refl
  same_made n (Instr.Select r c a b) = refl
  same_made n (Instr.Cast r op nneg a to) = refl
  same_made n (Instr.Alloca r ty align) = refl
  same_made n (Instr.Load r ty x align) = refl
  same_made n (Instr.Store a x align) = refl
  same_made n (Instr.Gep r inbounds ty x args) = refl
  same_made n (Instr.Call r must_tail ty c args) = refl

module _ (w : Weaving) (m : Module) (f : Function) (p : Plan) (block : ℕ) (ok : IsSound w f) (planned : IsPlanned w f p) where
  abbrev pub table : List (Option Fetch)
  table = fetches_of p

  abbrev fetches : AreFetches w f table
  fetches = planned_fetches w f p planned

  none_goes : (xs : List Operand) → Each (λ x. goes_in w x ≡ false) xs
  none_goes [] = tt
  none_goes (Operand.Local v ∷ xs) = (ok.goes v, none_goes xs)
  none_goes (Operand.Global n ∷ xs) = (refl, none_goes xs)
  none_goes (Operand.Number z ∷ xs) = (refl, none_goes xs)
  none_goes (Operand.True ∷ xs) = (refl, none_goes xs)
  none_goes (Operand.False ∷ xs) = (refl, none_goes xs)
  none_goes (Operand.Null ∷ xs) = (refl, none_goes xs)
  none_goes (Operand.None ∷ xs) = (refl, none_goes xs)
  none_goes (Operand.Poison ∷ xs) = (refl, none_goes xs)

  instr_remains : (before made : List ℕ) (n : ℕ) (i : Instr) → IsGood m f p block before i → AreInPlace w f ok table fetches made n (instr_operands i) → Stays w f made i (with_fetched table n i)
  instr_remains before made n i good h =
      Kept i (with_fetched table n i) (instr_stays w f ok table fetches made n i h)
      (λ e. record {
        same = marker_alone table n i e (λ v l. unplaced_fetch p v (good.mark e v l));
        slot = none_goes (instr_operands i);
      })

  -- one value more on both sides, and others
  result_among : (before made : List ℕ) (n : ℕ) (i : Instr) → AreAmong before made → AreAmong (option_to_list (result_of i) ++ before) (option_to_list (result_of (with_fetched table n i)) ++ made)
  result_among before made n i among =
      subst (λ (o : Option ℕ). AreAmong (option_to_list (result_of i) ++ before) (option_to_list o ++ made)) (sym (same_made table n i)) (among_both (option_to_list (result_of i)) before made among)

  pub instrs_woven : (before made : List ℕ) (k n : ℕ) (is rest : List Instr) → AreGood m f p block before is → AreAmong before made → AreAtHand w f block made → w.first ≤ k → w.first ≤ n → Each (IsFetch w) rest → Each (IsTold w) (spread m p table k n is rest) → AreWoven w m f block made is (spread m p table k n is rest)
  instrs_woven before made k n [] rest good among hand low second h told = all_put w m f block made rest (fetches_put w m f block made rest ok hand h told)
  instrs_woven before made k n (i ∷ is) rest good among hand low second h told =
      let j : Instr = with_fetched table n i in
      let a : List Instr = fetches_of_all table n (instr_operands i) in
      let b : List Instr = saved_values p.kept k (save_row p j) in
      let c : List Instr = stored_result p (result_of j) in
      let k1 : ℕ = after_saved k (save_row p j) in
      let d : List Instr = distance_behind m p k1 j in
      let k2 : ℕ = after_one m p k j in
      let n2 : ℕ = next_after_instr table n i in
      let more : List Instr = spread m p table k2 n2 is rest in
      let told_a : Each (IsTold w) a = each_left (IsTold w) a (b ++ (j ∷ (c ++ (d ++ more)))) told in
      let told1 : Each (IsTold w) (b ++ (j ∷ (c ++ (d ++ more)))) = each_right (IsTold w) a (b ++ (j ∷ (c ++ (d ++ more)))) told in
      let told2 : Each (IsTold w) (j ∷ (c ++ (d ++ more))) = each_right (IsTold w) b (j ∷ (c ++ (d ++ more))) told1 in
      let told3 : Each (IsTold w) (d ++ more) = each_right (IsTold w) c (d ++ more) told2.1 in
      let made1 : List ℕ = made_by_instrs made a in
      let made2 : List ℕ = made_by_instrs made1 b in
      let made3 : List ℕ = option_to_list (result_of j) ++ made2 in
      let made4 : List ℕ = made_by_instrs made3 c in
      let made5 : List ℕ = made_by_instrs made4 d in
      let to1 : AreAmong made made1 = made_grows a made in
      let to2 : AreAmong made made2 = λ v l. made_grows b made1 v (to1 v l) in
      let to3 : AreAmong made2 made3 = λ v l. listed_right v (option_to_list (result_of j)) made2 l in
      let to4 : AreAmong made3 made4 = made_grows c made3 in
      let fetched2 : AreAmong (row_of made_by a) made2 = λ v l. made_grows b made1 v (made_listed a made v l) in
      let fetched4 : AreAmong (row_of made_by a) made4 = λ v l. to4 v (to3 v (fetched2 v l)) in
      let hand3 : AreAtHand w f block made3 = still_at_hand w m f block made made3 (λ v l. to3 v (to2 v l)) hand in
      let hand4 : AreAtHand w f block made4 = still_at_hand w m f block made3 made4 to4 hand3 in
      let low1 : w.first ≤ k1 = saved_low w.first k (save_row p j) low in
      let grown : AreAmong (option_to_list (result_of i) ++ before) made3 = result_among before made2 n i (λ v l. to2 v (among v l)) in
      puts_woven w m f block made a (i ∷ is) (b ++ (j ∷ (c ++ (d ++ more)))) (fetches_put w m f block made a ok hand (all_fetches w f ok table fetches n (instr_operands i) second) told_a)
      (puts_woven w m f block made1 b (i ∷ is) (j ∷ (c ++ (d ++ more))) (saved_put w m f p block ok planned made1 k (save_row p j) (still_at_hand w m f block made made1 to1 hand) low (each_left (IsTold w) b (j ∷ (c ++ (d ++ more))) told1))
      (Remain made2 i j is (c ++ (d ++ more)) (instr_remains before made2 n i good.0 (all_in_place w f ok table fetches made2 n (instr_operands i) fetched2 told_a second))
      (puts_woven w m f block made3 c is (d ++ more) (stored_result_put w m f p block ok planned made3 (result_of j) hand3 (λ v l. listed_left v (option_to_list (result_of j)) made2 l))
      (puts_woven w m f block made4 d is more
      (behind_put w m f block ok table fetches p planned before made4 n k1 i (all_in_place w f ok table fetches made4 n (instr_operands i) fetched4 told_a second) (λ v l. to4 v (to3 v (to2 v (among v l)))) good.0.widths good.0.fits good.0.uses hand4 low1 (each_left (IsTold w) d more told3))
      (instrs_woven (option_to_list (result_of i) ++ before) made5 k2 n2 is rest good.1 (λ v l. made_grows d made4 v (to4 v (grown v l))) (still_at_hand w m f block made4 made5 (made_grows d made4) hand4) (behind_low m p w.first k1 j low1) (operands_low w f ok table fetches n (instr_operands i) second) h (each_right (IsTold w) d more told3))))))
