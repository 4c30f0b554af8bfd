-- Where operands are fetched, a value by which nothing is fetched is used only where it was.
use Rattle.std.proofs.Common.{◌≡◌, ⊎_elim, inl, inr, ℕ, zero, suc, ◌<◌, ◌≤◌, List, [], ◌∷◌, ◌++◌, append_assoc, refl, sym, ap, subst, arith}
use Rattle.std.specs.Prelude.{None, Option, Some, map, option_to_list, replicate, slice_get, slice_set}
use Rattle.pass_edges_proof.proofs.rule_laws.rules.crossing.Follows.{IsExtra, Uses}
use Rattle.pass_edges_proof.specs.rule_uses.Uses.{local_of, locals_in}
use Rattle.pass_edges_proof.proofs.ir_laws.paths.source_rules.Locals.{listed_either, listed_left, listed_right}
use Rattle.pass_fetch_proof.proofs.fetch.rules.Ends.{phis_rise}
use Rattle.pass_fetch_proof.proofs.fetch.rules.Fetched.{block_rises, instrs_rise}
use Rattle.pass_fetch_proof.proofs.fetch.rules.Puts.{fetch_rises}
use Rattle.pass_fetch_proof.specs.fetch.rules.Fetches.{base_of}
use Rattle.pass_edges_proof.specs.flow_solver.Paths.{IsListed}
use Rattle.pass_edges_proof.proofs.rule_laws.frames.needed.Follows.{Ended, Extra, Follows, Same, extras_follow}
use Rattle.pass_fetch_proof.proofs.fetch.shape.Fetching.{no_rows}
use Rattle.pass_edges_proof.specs.ir_parts.Contents.{arg_operands, callee_operands, instr_operands, result_of}
use Rattle.ir_model.specs.declared.instr.Incoming.{Incoming}
use Rattle.ir_model.specs.declared.instr.Instr.{Instr}
use Rattle.ir_model.specs.declared.instr.Phi.{Phi}
use Rattle.ir_model.specs.declared.module.Block.{Block}
use Rattle.ir_model.specs.declared.operand.Arg.{Arg}
use Rattle.ir_model.specs.declared.operand.Callee.{Callee}
use Rattle.ir_model.specs.declared.operand.Operand.{Operand}
use Rattle.pass_edges_proof.specs.run_laws.changed.Changed.{Each}
use Rattle.pass_edges_proof.specs.pass_fetch.Blocks.{end_at, ends_of_blocks, ends_of_incoming, ends_of_phis, fetched_block, fetched_blocks, next_after_block, next_after_phi, next_after_phis, with_end}
use Rattle.pass_edges_proof.specs.pass_fetch.Fetching.{callee_by, fetch_at, fetch_into, fetch_of, fetched_args, fetched_operand, fetches_by, fetches_of, fetches_of_all, next_after, operand_by}
use Rattle.pass_edges_proof.specs.pass_fetch.Instrs.{fetched_instr, fetched_instrs, next_after_instr, next_after_instrs, term_operands, with_fetched}
use Rattle.pass_edges_proof.specs.pass_fetch.declared.fetch.Fetch.{Fetch}
use Rattle.pass_edges_proof.proofs.ir_laws.facts.Members.{each_behind as each_both}
use Rattle.pass_edges_proof.proofs.ir_laws.paths.crossing.NewUses.{some_local}

module _ (t : List (Option Fetch)) (first v : ℕ) (old : v < first) (based : (u : ℕ) (x : Fetch) → fetch_of t (Operand.Local u) ≡ Some x → base_of x ≡ v → ⊥) where
  -- ---- what is fetched

  new_other : (n : ℕ) → first ≤ n → Some n ≡ Some v → ⊥
  new_other n low e = let same : n ≡ v = cc in absurd (omega (arith, same, low, old))

  by_base : (n : ℕ) (y : Fetch) → first ≤ n → (base_of y ≡ v → ⊥) → IsExtra v (fetch_into n y)
  by_base n (Fetch.Load ty cell) low h = record { unused = one; other = new_other n low }
    where
      one : IsListed v (cell ∷ []) → ⊥
      one (inl e) = h (sym e)
      one (inr l) = l
  by_base n (Fetch.Address base distance) low h = record { unused = one; other = new_other n low }
    where
      one : IsListed v (base ∷ []) → ⊥
      one (inl e) = h (sym e)
      one (inr l) = l

  fetch_extra : (n : ℕ) (x : Operand) (y : Fetch) → first ≤ n → fetch_of t x ≡ Some y → IsExtra v (fetch_into n y)
  fetch_extra n (Operand.Local u) y low e = by_base n y low (based u y e)
  fetch_extra n _ y low e = absurd (cc)

  by_extra : (n : ℕ) (x : Operand) (o : Option Fetch) → first ≤ n → fetch_of t x ≡ o → Each (IsExtra v) (fetches_by n o)
  by_extra n x None low e = tt
  by_extra n x (Some y) low e = (fetch_extra n x y low e, tt)

  rises : (n : ℕ) (x : Operand) → first ≤ n → first ≤ next_after t n x
  rises n x low = let more : n ≤ next_after t n x = fetch_rises t n (x ∷ []) in omega (arith, low, more)

  pub fetches_extra : (n : ℕ) (xs : List Operand) → first ≤ n → Each (IsExtra v) (fetches_of_all t n xs)
  fetches_extra n [] low = tt
  fetches_extra n (x ∷ xs) low = each_both (IsExtra v) (fetches_of t n x) (fetches_of_all t (next_after t n x) xs) (by_extra n x (fetch_of t x) low refl) (fetches_extra (next_after t n x) xs (rises n x low))

  -- ---- operands in the place of others

  local_stays : (n u : ℕ) (o : Option Fetch) → first ≤ n → local_of (operand_by n o (Operand.Local u)) ≡ Some v → u ≡ v
  local_stays n u None low e = cc
  local_stays n u (Some x) low e = absurd (new_other n low e)

  operand_stays : (n : ℕ) (x : Operand) → first ≤ n → local_of (fetched_operand t n x) ≡ Some v → local_of x ≡ Some v
  operand_stays n (Operand.Local u) low e = ap (λ (k : ℕ). Some k) (local_stays n u (fetch_at (slice_get t u)) low e)
  operand_stays n _ low e = absurd (cc)

  abbrev in_order : ℕ → List Operand → List Operand
  in_order n [] = []
  in_order n (x ∷ xs) = fetched_operand t n x ∷ in_order (next_after t n x) xs

  list_stays : (n : ℕ) (xs : List Operand) → first ≤ n → IsListed v (locals_in (in_order n xs)) → IsListed v (locals_in xs)
  list_stays n [] low h = absurd h
  list_stays n (x ∷ xs) low h =
      ⊎_elim
      (λ a. listed_left v (option_to_list (local_of x)) (locals_in xs) (subst (λ (o : Option ℕ). IsListed v (option_to_list o)) (sym (operand_stays n x low (some_local (local_of (fetched_operand t n x)) v a))) (inl refl)))
      (λ b. listed_right v (option_to_list (local_of x)) (locals_in xs) (list_stays (next_after t n x) xs (rises n x low) b))
      (listed_either v (option_to_list (local_of (fetched_operand t n x))) (locals_in (in_order (next_after t n x) xs)) h)

  args_in_order : (n : ℕ) (args : List Arg) → arg_operands (fetched_args t n args) ≡ in_order n (arg_operands args)
  args_in_order n [] = refl
  args_in_order n (a ∷ args) = ap (λ (l : List Operand). fetched_operand t n a.value ∷ l) (args_in_order (next_after t n a.value) args)

  called_in_order : (n u : ℕ) (o : Option Fetch) → callee_operands (callee_by n o (Callee.Local u)) ≡ operand_by n o (Operand.Local u) ∷ []
  called_in_order n u None = refl
  called_in_order n u (Some x) = refl

  instr_in_order : (n : ℕ) (i : Instr) → instr_operands (with_fetched t n i) ≡ in_order n (instr_operands i)
  instr_in_order n (Instr.Binary r op flags ty a b) = refl
  instr_in_order n (Instr.Icmp r pred ty a b) = refl
  instr_in_order n (Instr.Select r c a b) = refl
  instr_in_order n (Instr.Cast r op nneg a to) = refl
  instr_in_order n (Instr.Alloca r ty align) = refl
  instr_in_order n (Instr.Load r ty x align) = refl
  instr_in_order n (Instr.Store a x align) = refl
  instr_in_order n (Instr.Gep r inbounds ty x args) = ap (λ (l : List Operand). fetched_operand t n x ∷ l) (args_in_order (next_after t n x) args)
  instr_in_order n (Instr.Call r must_tail ty (Callee.Named c) args) = args_in_order n args
  instr_in_order n (Instr.Call r must_tail ty (Callee.Allocator c) args) = args_in_order n args
  instr_in_order n (Instr.Call r must_tail ty (Callee.Intrinsic c) args) = args_in_order n args
  instr_in_order n (Instr.Call r must_tail ty (Callee.Local u) args) =
      λ k. called_in_order n u (fetch_at (slice_get t u)) k ++ args_in_order (next_after t n (Operand.Local u)) args k

  uses_stay : (n : ℕ) (i : Instr) → first ≤ n → Uses v (with_fetched t n i) → Uses v i
  uses_stay n i low h = list_stays n (instr_operands i) low (subst (λ (l : List Operand). IsListed v (locals_in l)) (instr_in_order n i) h)

  result_stays : (n : ℕ) (i : Instr) → result_of (with_fetched t n i) ≡ result_of i
  result_stays n (Instr.Binary r op flags ty a b) = refl
  result_stays n (Instr.Icmp r pred ty a b) = refl
  result_stays n (Instr.Select r c a b) = refl
  result_stays n (Instr.Cast r op nneg a to) = refl
  result_stays n (Instr.Alloca r ty align) = refl
  result_stays n (Instr.Load r ty x align) = refl
  result_stays n (Instr.Store a x align) = refl
  result_stays n (Instr.Gep r inbounds ty x args) = refl
  result_stays n (Instr.Call r must_tail ty c args) = refl

  -- ---- the instructions of a block

  pub one_follows : (n : ℕ) (i : Instr) (is rest : List Instr) → first ≤ n → Follows v is rest → Follows v (i ∷ is) (fetched_instr t n i ++ rest)
  one_follows n i is rest low h =
      subst (Follows v (i ∷ is)) (sym (append_assoc (fetches_of_all t n (instr_operands i)) (with_fetched t n i ∷ []) rest))
      (extras_follow v (fetches_of_all t n (instr_operands i)) (i ∷ is) (with_fetched t n i ∷ rest) (fetches_extra n (instr_operands i) low)
      (Same i (with_fetched t n i) is rest (uses_stay n i low) (result_stays n i) h))

  pub all_extra : (xs : List Instr) → Each (IsExtra v) xs → Follows v [] xs
  all_extra [] h = Ended
  all_extra (x ∷ xs) h = Extra x [] xs h.0 (all_extra xs h.1)

  instrs_follow : (n : ℕ) (is tail : List Instr) → first ≤ n → Each (IsExtra v) tail → Follows v is (fetched_instrs t n is ++ tail)
  instrs_follow n [] tail low h = all_extra tail h
  instrs_follow n (i ∷ is) tail low h =
      let more : n ≤ next_after_instr t n i = fetch_rises t n (instr_operands i) in
      subst (Follows v (i ∷ is)) (sym (append_assoc (fetched_instr t n i) (fetched_instrs t (next_after_instr t n i) is) tail))
      (one_follows n i is (fetched_instrs t (next_after_instr t n i) is ++ tail) low (instrs_follow (next_after_instr t n i) is tail (omega (arith, low, more)) h))

  -- ---- what is fetched for phis at the ends of blocks

  abbrev AllExtra : List (List Instr) → Type 0
  AllExtra ends = (l : ℕ) → Each (IsExtra v) (end_at ends l)

  set_extra : (xs : List (List Instr)) (k : ℕ) (ys : List Instr) → Each (IsExtra v) ys → AllExtra xs → AllExtra (slice_set xs k ys)
  set_extra [] k ys py h l = h l
  set_extra (x ∷ xs) zero ys py h zero = py
  set_extra (x ∷ xs) zero ys py h (suc l) = h (suc l)
  set_extra (x ∷ xs) (suc k) ys py h zero = h zero
  set_extra (x ∷ xs) (suc k) ys py h (suc l) = set_extra xs k ys py (λ j. h (suc j)) l

  end_extra : (ends : List (List Instr)) (label n : ℕ) (x : Operand) (o : Option Fetch) → first ≤ n → fetch_of t x ≡ o → AllExtra ends → AllExtra (with_end ends label n o)
  end_extra ends label n x None low e h = h
  end_extra ends label n x (Some y) low e h = set_extra ends label (end_at ends label ++ fetch_into n y ∷ []) (each_both (IsExtra v) (end_at ends label) (fetch_into n y ∷ []) (h label) (fetch_extra n x y low e, tt)) h

  incoming_extra : (n : ℕ) (ends : List (List Instr)) (is : List Incoming) → first ≤ n → AllExtra ends → AllExtra (ends_of_incoming t n ends is)
  incoming_extra n ends [] low h = h
  incoming_extra n ends (i ∷ is) low h = incoming_extra (next_after t n i.value) (with_end ends i.from n (fetch_of t i.value)) is (rises n i.value low) (end_extra ends i.from n i.value (fetch_of t i.value) low refl h)

  phis_extra : (n : ℕ) (ends : List (List Instr)) (ps : List Phi) → first ≤ n → AllExtra ends → AllExtra (ends_of_phis t n ends ps)
  phis_extra n ends [] low h = h
  phis_extra n ends (p ∷ ps) low h =
      let more : n ≤ next_after_phi t n p = fetch_rises t n (map (λ i. i.value) p.incoming) in
      phis_extra (next_after_phi t n p) (ends_of_incoming t n ends p.incoming) ps (omega (arith, low, more)) (incoming_extra n ends p.incoming low h)

  blocks_extra : (n : ℕ) (ends : List (List Instr)) (bs : List Block) → first ≤ n → AllExtra ends → AllExtra (ends_of_blocks t n ends bs)
  blocks_extra n ends [] low h = h
  blocks_extra n ends (b ∷ bs) low h =
      let more : n ≤ next_after_phis t n b.phis = phis_rise t n b.phis in
      blocks_extra (next_after_phis t n b.phis) (ends_of_phis t n ends b.phis) bs (omega (arith, low, more)) (phis_extra n ends b.phis low h)

  -- ---- blocks

  block_follows : (ends : List (List Instr)) → AllExtra ends → (j n : ℕ) (b : Block) → first ≤ n → Follows v b.instrs (fetched_block t ends j n b).instrs
  block_follows ends h j n b low =
      let last : ℕ = next_after_instrs t n b.instrs in
      let more : n ≤ last = instrs_rise t n b.instrs in
      let tail : List Instr = end_at ends b.label ++ fetches_of_all t last (term_operands b.term) in
      subst (Follows v b.instrs) (sym (append_assoc (fetched_instrs t n b.instrs) (end_at ends b.label) (fetches_of_all t last (term_operands b.term))))
      (instrs_follow n b.instrs tail low (each_both (IsExtra v) (end_at ends b.label) (fetches_of_all t last (term_operands b.term)) (h b.label) (fetches_extra last (term_operands b.term) (omega (arith, low, more)))))

  at_follows : (ends : List (List Instr)) → AllExtra ends → (j n : ℕ) (bs : List Block) → first ≤ n → (q : ℕ) (b c : Block) → slice_get bs q ≡ Some b → slice_get (fetched_blocks t ends j n bs) q ≡ Some c → Follows v b.instrs c.instrs
  at_follows ends h j n [] low q b c e d = absurd (cc)
  at_follows ends h j n (x ∷ bs) low zero b c e d =
      let one : x ≡ b = cc in
      let two : fetched_block t ends j n x ≡ c = cc in
      subst (λ (y : Block). Follows v y.instrs c.instrs) one (subst (λ (y : Block). Follows v x.instrs y.instrs) two (block_follows ends h j n x low))
  at_follows ends h j n (x ∷ bs) low (suc q) b c e d =
      let more : n ≤ next_after_block t n x = block_rises t n x in
      at_follows ends h (next_after_phis t j x.phis) (next_after_block t n x) bs (omega (arith, low, more)) q b c e d

  pub fetches_follow : (rows j n : ℕ) (all bs : List Block) → first ≤ j → first ≤ n → (q : ℕ) (b c : Block) → slice_get bs q ≡ Some b → slice_get (fetched_blocks t (ends_of_blocks t j (replicate rows []) all) j n bs) q ≡ Some c → Follows v b.instrs c.instrs
  fetches_follow rows j n all bs low_j low_n = at_follows (ends_of_blocks t j (replicate rows []) all) (blocks_extra j (replicate rows []) all low_j (no_rows t (IsExtra v) rows)) j n bs low_n
