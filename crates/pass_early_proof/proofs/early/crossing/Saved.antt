-- A function and the same with its saves written out are alike, so far as the names of the function's own go.
use Rattle.std.proofs.Common.{◌≡◌, ℕ, ◌+◌, ◌<◌, ◌≤◌, ◌⊎◌, inl, inr, Bool, true, false, List, [], ◌∷◌, ◌++◌, length, refl, sym, ap, ◌∙◌, subst, arith, add-one, add-zero, ◌↔◌}
use Rattle.std.specs.Prelude.{Some, None, Option, option_map, slice_get, if◌then◌else◌, ◌==◌}
use Rattle.rule_laws.specs.rule_uses.Uses.{local_of, locals_in}
use Rattle.rule_laws.proofs.frames.alike_crossing.Alike.{AreAlike, IsAlike, IsOfPlace, IsOneOn, IsOther}
use Rattle.rule_laws.proofs.frames.alike_crossing.Counted.{values_named}
use Rattle.rule_laws.proofs.frames.alike_crossing.Crossing.{AreAsCrossing, crosses_forth, crosses_home, crossing_same}
use Rattle.pass_early_proof.proofs.early.crossing.Unsaved.{each_from, more_block, more_name}
use Rattle.pass_early_proof.proofs.early.saves.Tokens.{bare_is}
use Rattle.pass_early.specs.Early.{save_call, saved}
use Rattle.rule_laws.specs.flow_solver.Paths.{IsListed}
use Rattle.rule_laws.specs.ir_parts.Contents.{arg_operands, result_of}
use Rattle.ir_model.specs.declared.instr.Incoming.{Incoming}
use Rattle.ir_model.specs.declared.instr.Instr.{Instr}
use Rattle.ir_model.specs.declared.instr.Phi.{Phi}
use Rattle.ir_model.specs.declared.instr.Terminator.{Terminator}
use Rattle.ir_model.specs.declared.module.Block.{Block}
use Rattle.ir_model.specs.declared.module.Function.{Function}
use Rattle.ir_model.specs.declared.operand.Arg.{Arg}
use Rattle.ir_model.specs.declared.operand.Callee.{Callee}
use Rattle.ir_model.specs.declared.operand.Intrinsic.{Intrinsic}
use Rattle.rule_laws.specs.ir_paths.Windows.{label_at}
use Rattle.rule_laws.specs.ir_paths.declared.point.Point.{Point}
use Rattle.rule_laws.specs.run_step.Step.{AtInstr, Nowhere, fetch, fetch_in, fetch_or}
use Rattle.pass_early_proof.proofs.early.saves.Apart.{back_back, front_back}
use Rattle.pass_early_proof.proofs.early.saves.Behind.{end_saved, suspends_moved}
use Rattle.pass_early_proof.proofs.early.saves.Blocks.{get_block, instrs_saved, position_saved}
use Rattle.pass_early_proof.proofs.early.saves.Instrs.{get_save, instr_then, name_at, next_place}
use Rattle.pass_early_proof.proofs.early.saves.Parts.{fetch_back}
use Rattle.pass_early_proof.specs.early.saves.SavesWritten.{behind_save, behind_saves, is_bare, saved_block, saved_blocks, saved_function, with_saves}
use Rattle.pass_early_proof.specs.early.saves.Spots.{back_of, number_of_block, own_saves, place_in}
use Rattle.rule_laws.specs.ir_laws.facts.expanded.Spots.{instrs_in}
use Rattle.rule_laws.specs.ir_laws.facts.sound_states.Named.{HasNamedLocals}
use Rattle.rule_laws.specs.frame_crossing.Crossing.{AreCrossing}
use Rattle.rule_laws.specs.frame_crossing.EdgeUses.{blocks_uses, edge_uses, incoming_uses, phis_uses, uses_by}
use Rattle.rule_laws.specs.frame_crossing.Paths.{phis_at, phis_in}
use Rattle.rule_laws.specs.frame_crossing.Values.{blocks_defined, distinct, instrs_defined, is_apart, params_defined, phis_defined, result_unless, values_of}

-- ---- values

module _ (c : Bool) where
  instrs_values : (n : ℕ) (is : List Instr) → instrs_defined (with_saves c n is) ≡ instrs_defined is
  instrs_values n [] = refl
  instrs_values n (i ∷ is) = on (is_bare c i) refl (instrs_values (behind_save c n i) is)
    where
      on : (b : Bool) → is_bare c i ≡ b → instrs_defined (with_saves c (behind_save c n i) is) ≡ instrs_defined is → instrs_defined ((if b then save_call n ∷ saved n i ∷ [] else i ∷ []) ++ with_saves c (behind_save c n i) is) ≡ instrs_defined (i ∷ is)
      on true e again =
          let bare = bare_is c i e in
          ap (λ (x : Instr). instrs_defined (save_call n ∷ saved n x ∷ with_saves c (behind_save c n i) is)) bare.is
          ∙ ap (λ (vs : List ℕ). result_unless (is_apart (Instr.Call bare.result bare.must_tail bare.ty (Callee.Intrinsic Intrinsic.CoroSuspend) [])) bare.result ++ vs) again
          ∙ sym (ap (λ (x : Instr). instrs_defined (x ∷ is)) bare.is)
      on false e again = ap (λ (vs : List ℕ). result_unless (is_apart i) (result_of i) ++ vs) again

  blocks_values : (n : ℕ) (bs : List Block) → blocks_defined (saved_blocks c n bs) ≡ blocks_defined bs
  blocks_values n [] = refl
  blocks_values n (b ∷ bs) =
      let first = instrs_values n b.instrs in
      let rest = blocks_values (behind_saves c n b.instrs) bs in
      λ i. phis_defined b.phis ++ (first i ++ rest i)

pub values_saved : (f : Function) → values_of (saved_function f) ≡ values_of f
values_saved f = ap (λ (vs : List ℕ). distinct [] (params_defined f.params ++ vs)) (blocks_values f.coroutine (length f.names) f.blocks)

-- ---- uses on edges

module _ (f : Function) where
  abbrev g : Function
  g = saved_function f

  incoming_saved : (to : ℕ) (is : List Incoming) → incoming_uses g to is ≡ incoming_uses f to is
  incoming_saved to [] = refl
  incoming_saved to (i ∷ is) =
      let first = position_saved f i.from in
      let rest = incoming_saved to is in
      λ k. uses_by (first k) to (local_of i.value) ++ rest k

  phis_saved : (to : ℕ) (ps : List Phi) → phis_uses g to ps ≡ phis_uses f to ps
  phis_saved to [] = refl
  phis_saved to (p ∷ ps) =
      let first = incoming_saved to p.incoming in
      let rest = phis_saved to ps in
      λ k. first k ++ rest k

  blocks_saved : (at n : ℕ) (bs : List Block) → blocks_uses g at (saved_blocks f.coroutine n bs) ≡ blocks_uses f at bs
  blocks_saved at n [] = refl
  blocks_saved at n (b ∷ bs) =
      let first = phis_saved at b.phis in
      let rest = blocks_saved (at + 1) (behind_saves f.coroutine n b.instrs) bs in
      λ k. first k ++ rest k

  edges_saved : edge_uses g ≡ edge_uses f
  edges_saved = blocks_saved 0 (length f.names) f.blocks

  -- ---- what stands where

  abbrev number : ℕ → ℕ
  number b = number_of_block f.coroutine b (length f.names) f.blocks

  abbrev instrs : ℕ → List Instr
  instrs b = instrs_in (slice_get f.blocks b)

  abbrev pub front : ℕ → ℕ → ℕ
  front b at = place_in f.coroutine at (number b) (instrs b)

  abbrev pub back : ℕ → ℕ → ℕ
  back b at = place_in f.coroutine at (number b) (instrs b) + own_saves f.coroutine (slice_get (instrs b) at)

  abbrev point : ℕ → ℕ → Point
  point b at = record { block = b; at = at }

  next_front : (b at : ℕ) → front b (at + 1) ≡ back b at + 1
  next_front b at = ap (front b) (add-one at) ∙ next_place f.coroutine at (number b) (instrs b) ∙ sym (add-one (back b at))

  fetch_instr : (o : Option Block) (x : ℕ) (j : Instr) → slice_get (instrs_in o) x ≡ Some j → fetch_in o x ≡ AtInstr j
  fetch_instr None x j e = absurd (cc)
  fetch_instr (Some b) x j e = ap (λ (o : Option Instr). fetch_or o (x == length b.instrs) b.term) e

  instr_fetched : (o : Option Block) (x : ℕ) (j : Instr) → fetch_in o x ≡ AtInstr j → slice_get (instrs_in o) x ≡ Some j
  instr_fetched None x j e = absurd (cc)
  instr_fetched (Some b) x j e = on (slice_get b.instrs x) (x == length b.instrs) e
    where
      on : (o : Option Instr) (last : Bool) → fetch_or o last b.term ≡ AtInstr j → o ≡ Some j
      on None true e = absurd (cc)
      on None false e = absurd (cc)
      on (Some i) last e = let same : i ≡ j = cc in ap (λ (x : Instr). Some x) same

  label_saved : (n b : ℕ) → label_at n (slice_get g.blocks b) ≡ label_at n (slice_get f.blocks b)
  label_saved n b = ap (label_at n) (get_block f.coroutine b (length f.names) f.blocks) ∙ on (slice_get f.blocks b)
    where
      on : (o : Option Block) → label_at n (option_map (saved_block f.coroutine (number b)) o) ≡ label_at n o
      on None = refl
      on (Some x) = refl

  phis_at_saved : (b : ℕ) → phis_at g b ≡ phis_at f b
  phis_at_saved b = ap phis_in (get_block f.coroutine b (length f.names) f.blocks) ∙ on (slice_get f.blocks b)
    where
      on : (o : Option Block) → phis_in (option_map (saved_block f.coroutine (number b)) o) ≡ phis_in o
      on None = refl
      on (Some x) = refl

  module _ (v : ℕ) (small : v < length f.names) where
    other_number : (n : ℕ) → length f.names ≤ n → v ≡ n → ⊥
    other_number n le e = omega (arith, le, small, e)

    later : (b at : ℕ) → length f.names ≤ name_at f.coroutine at (number b) (instrs b)
    later b at =
        let one = more_block f.coroutine b (length f.names) f.blocks in
        let two = more_name f.coroutine at (number b) (instrs b) in
        omega (arith, one, two)

    save_stands : (b at : ℕ) (i : Instr) → slice_get (instrs b) at ≡ Some i → is_bare f.coroutine i ≡ true → IsOther v (fetch g b (front b at))
    save_stands b at i e d = record {
      instr = save_call (name_at f.coroutine at (number b) (instrs b));
      is = fetch_instr (slice_get g.blocks b) (front b at) (save_call (name_at f.coroutine at (number b) (instrs b)))
          (ap (λ (is : List Instr). slice_get is (front b at)) (instrs_saved f.coroutine b (length f.names) f.blocks)
          ∙ get_save f.coroutine at (number b) (instrs b) i e d);
      makes_not = λ s. other_number (name_at f.coroutine at (number b) (instrs b)) (later b at) (number_is (name_at f.coroutine at (number b) (instrs b)) s);
      uses_not = λ l. l;
    }
      where
        number_is : (n : ℕ) → Some n ≡ Some v → v ≡ n
        number_is n s = cc

    within_at : (b at : ℕ) → (front b at ≡ back b at) ⊎ IsOneOn g front back v b at
    within_at b at = on (slice_get (instrs b) at) refl
      where
        none : own_saves f.coroutine (slice_get (instrs b) at) ≡ 0 → front b at ≡ back b at
        none z = sym (ap (λ (k : ℕ). front b at + k) z ∙ add-zero (front b at))

        by_instr : (i : Instr) → slice_get (instrs b) at ≡ Some i → (t : Bool) → is_bare f.coroutine i ≡ t → (front b at ≡ back b at) ⊎ IsOneOn g front back v b at
        by_instr i e true d = inr (record { behind = ap (λ (k : ℕ). front b at + k) (ap (own_saves f.coroutine) e ∙ ap (λ (t : Bool). if t then 1 else 0) d); other = save_stands b at i e d })
        by_instr i e false d = inl (none (ap (own_saves f.coroutine) e ∙ ap (λ (t : Bool). if t then 1 else 0) d))

        on : (o : Option Instr) → slice_get (instrs b) at ≡ o → (front b at ≡ back b at) ⊎ IsOneOn g front back v b at
        on None e = inl (none (ap (own_saves f.coroutine) e))
        on (Some i) e = by_instr i e (is_bare f.coroutine i) refl

    saved_alike : (n : ℕ) (i : Instr) → length f.names ≤ n → is_bare f.coroutine i ≡ true → IsAlike v (AtInstr i) (AtInstr (saved n i))
    saved_alike n i le d =
        let bare = bare_is f.coroutine i d in
        subst (λ (x : Instr). IsAlike v (AtInstr x) (AtInstr (saved n x))) (sym bare.is) (((λ e. e), (λ e. e)), ((λ l. inr l), home bare.args))
      where
        home : (args : List Arg) → IsListed v (n ∷ locals_in (arg_operands args)) → IsListed v (locals_in (arg_operands args))
        home args (inl e) = absurd (other_number n le e)
        home args (inr l) = l

    then_alike : (k n : ℕ) (is : List Instr) (o : Option Instr) (last : Bool) (t : Terminator) → length f.names ≤ name_at f.coroutine k n is → IsAlike v (fetch_or o last t) (fetch_or (instr_then f.coroutine k n is o) last t)
    then_alike k n is None true t le = (refl, ((λ l. l), (λ l. l)))
    then_alike k n is None false t le = tt
    then_alike k n is (Some i) last t le = on (is_bare f.coroutine i) refl
      where
        on : (b : Bool) → is_bare f.coroutine i ≡ b → IsAlike v (AtInstr i) (AtInstr (if b then saved (name_at f.coroutine k n is) i else i))
        on true d = saved_alike (name_at f.coroutine k n is) i le d
        on false d = (((λ e. e), (λ e. e)), ((λ l. l), (λ l. l)))

    stands_at : (b at : ℕ) → IsAlike v (fetch f b at) (fetch g b (back b at))
    stands_at b at = on (slice_get f.blocks b) refl
      where
        on : (o : Option Block) → slice_get f.blocks b ≡ o → IsAlike v (fetch_in o at) (fetch g b (back b at))
        on None e =
            subst (λ (x : Option Block). IsAlike v Nowhere (fetch_in x (back b at)))
            (sym (get_block f.coroutine b (length f.names) f.blocks ∙ ap (option_map (saved_block f.coroutine (number b))) e)) tt
        on (Some x) e =
            subst (IsAlike v (fetch_or (slice_get x.instrs at) (at == length x.instrs) x.term)) (sym (fetch_back f (point b at) x e))
            (subst (λ (o : Option Instr). IsAlike v (fetch_or o (at == length x.instrs) x.term) (fetch_or (instr_then f.coroutine at (number b) (instrs b) (slice_get (instrs b) at)) (at == length x.instrs) x.term)) (ap (λ (y : Option Block). slice_get (instrs_in y) at) e)
            (then_alike at (number b) (instrs b) (slice_get (instrs b) at) (at == length x.instrs) x.term (later b at)))

    found_at : (b x : ℕ) (j : Instr) → fetch g b x ≡ AtInstr j → IsOfPlace front back b x
    found_at b x j e =
        let from = each_from f.coroutine (number b) (instrs b) x j
        (sym (ap (λ (is : List Instr). slice_get is x) (instrs_saved f.coroutine b (length f.names) f.blocks)) ∙ instr_fetched (slice_get g.blocks b) x j e) in
        record { at = from.at; is_at = from.is_at }

    pub alike_saved : AreAlike f g front back v
    alike_saved = record {
      first = λ b. refl;
      next = next_front;
      within = within_at;
      stands = stands_at;
      backs = λ b at to e. ap (λ (p : Point). p.at) (back_back f (point b at) (point b to) (λ k. point b (e k)));
      fronts = λ b at to e. ap (λ (p : Point). p.at) (front_back f (point b at) (point b to) (λ k. point b (e k)));
      found = found_at;
      position = position_saved f;
      end = end_saved f;
      phis = λ b. (subst (IsListed v) (sym (phis_at_saved b)), subst (IsListed v) (phis_at_saved b));
      params = refl;
      edges = λ from to. (subst (IsListed _) (sym edges_saved), subst (IsListed _) edges_saved);
      resumes = λ b at. label_saved 0 b;
      destroys = λ b at. label_saved 1 b;
    }

pub crossing_saved : (f : Function) → HasNamedLocals f → (all : List (ℕ × ℕ)) → AreCrossing f all ↔ AreCrossing (saved_function f) all
crossing_saved f named all = crossing_same f (saved_function f) (back_of f) same all
  where
    same : AreAsCrossing f (saved_function f) (back_of f)
    same = record {
      values = values_saved f;
      suspends = suspends_moved f;
      forth = λ v s here c. crosses_forth f (saved_function f) (front f) (back f) v (alike_saved f v (values_named f named v c.is_value)) (values_saved f) s c;
      home = λ v s here c. crosses_home f (saved_function f) (front f) (back f) v (alike_saved f v (values_named f named v (subst (IsListed v) (values_saved f) c.is_value))) (values_saved f) s c;
    }
