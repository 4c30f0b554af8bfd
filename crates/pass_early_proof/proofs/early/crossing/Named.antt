-- A function and the same with its begins named are alike, so far as the names of the function's own go.
use Rattle.std.proofs.Common.{◌≡◌, ℕ, ◌+◌, ◌<◌, inl, Bool, true, false, List, [], ◌∷◌, ◌++◌, length, refl, sym, ap, ◌∙◌, subst, arith, ◌↔◌}
use Rattle.std.specs.Prelude.{Some, None, Option, map, option_map, slice_get, ◌||◌, ◌==◌}
use Rattle.pass_early_proof.proofs.early.begin_naming.NamedParts.{block_same, call_of_same, destroy_same, end_same, fetch_same, named_fetched, points_where_same, position_same, resume_same, same_but_begin, with_begin}
use Rattle.pass_early_proof.proofs.early.begin_naming.NamedSlots.{begin_unnamed}
use Rattle.rule_laws.specs.rule_uses.Uses.{local_of, locals_in}
use Rattle.rule_laws.proofs.frames.alike_crossing.Alike.{AreAlike, IsAlike}
use Rattle.rule_laws.proofs.frames.alike_crossing.Counted.{values_named}
use Rattle.rule_laws.proofs.frames.alike_crossing.Crossing.{AreAsCrossing, crosses_forth, crosses_home, crossing_same}
use Rattle.pass_early_proof.proofs.early.crossing.Renamed.{map_itself}
use Rattle.pass_early.specs.BeginName.{if_unnamed, named_block, named_instr, with_begin_name}
use Rattle.rule_laws.specs.flow_solver.Paths.{IsListed}
use Rattle.rule_laws.specs.ir_parts.Contents.{instr_operands, result_of}
use Rattle.ir_model.specs.Calls.{first_result, result_of_call}
use Rattle.ir_model.specs.Ty.{Ty}
use Rattle.ir_model.specs.declared.instr.Incoming.{Incoming}
use Rattle.ir_model.specs.declared.instr.Instr.{Instr}
use Rattle.ir_model.specs.declared.instr.Phi.{Phi}
use Rattle.ir_model.specs.declared.module.Block.{Block}
use Rattle.ir_model.specs.declared.module.Function.{Function}
use Rattle.ir_model.specs.declared.operand.Callee.{Callee}
use Rattle.ir_model.specs.declared.operand.Intrinsic.{Intrinsic}
use Rattle.ir_model.specs.declared.operand.Operand.{Operand}
use Rattle.rule_laws.specs.ir_paths.Windows.{instr_in, is_call_of}
use Rattle.rule_laws.specs.run_step.Step.{AtInstr, AtTerm, Fetched, Nowhere, fetch, fetch_in, fetch_or}
use Rattle.rule_laws.specs.ir_laws.facts.sound_states.Named.{HasNamedLocals}
use Rattle.rule_laws.specs.frame_crossing.Crossing.{AreCrossing, suspends_of}
use Rattle.rule_laws.specs.frame_crossing.EdgeUses.{blocks_uses, edge_uses, incoming_uses, phis_uses, uses_by}
use Rattle.rule_laws.specs.frame_crossing.Paths.{phis_at, phis_in}
use Rattle.rule_laws.specs.frame_crossing.Values.{blocks_defined, distinct, instrs_defined, is_apart, is_token_result, params_defined, phis_defined, result_unless, values_of}

-- what an instruction stands for, of which the function's own names are asked
instr_fetched : (o : Option Block) (x : ℕ) (i : Instr) → fetch_in o x ≡ AtInstr i → instr_in o x ≡ Some i
instr_fetched None x i e = absurd (cc)
instr_fetched (Some b) x i e = on (slice_get b.instrs x) (x == length b.instrs) e
  where
    on : (o : Option Instr) (last : Bool) → fetch_or o last b.term ≡ AtInstr i → o ≡ Some i
    on None true e = absurd (cc)
    on None false e = absurd (cc)
    on (Some j) last e = let same : j ≡ i = cc in ap (λ (y : Instr). Some y) same

module _ (n : ℕ) where
  -- ---- values

  begin_apart : (ty : Option Ty) (o p : Option ℕ) (rest : Bool) → result_unless (is_token_result ty || (true || rest)) o ≡ result_unless (is_token_result ty || (true || rest)) p
  begin_apart ty o p rest = on (is_token_result ty)
    where
      apart : (x : Option ℕ) → result_unless true x ≡ []
      apart None = refl
      apart (Some y) = refl

      on : (a : Bool) → result_unless (a || (true || rest)) o ≡ result_unless (a || (true || rest)) p
      on true = apart o ∙ sym (apart p)
      on false = apart o ∙ sym (apart p)

  values_one : (i : Instr) → result_unless (is_apart (named_instr n i)) (result_of (named_instr n i)) ≡ result_unless (is_apart i) (result_of i)
  values_one i = same_but_begin n (λ (x : Instr). result_unless (is_apart x) (result_of x)) (λ result must_tail ty args. begin_apart ty (Some n) result (is_call_of Intrinsic.CoroFrame (Instr.Call result must_tail ty (Callee.Intrinsic Intrinsic.CoroBegin) args))) i

  instrs_values : (is : List Instr) → instrs_defined (map (named_instr n) is) ≡ instrs_defined is
  instrs_values [] = refl
  instrs_values (i ∷ is) = λ k. values_one i k ++ instrs_values is k

  blocks_values : (bs : List Block) → blocks_defined (map (named_block n) bs) ≡ blocks_defined bs
  blocks_values [] = refl
  blocks_values (b ∷ bs) = λ k. phis_defined b.phis ++ (instrs_values b.instrs k ++ blocks_values bs k)

  values_with : (f : Function) → values_of (with_begin n f) ≡ values_of f
  values_with f = λ k. distinct [] (params_defined f.params ++ blocks_values f.blocks k)

  -- ---- what stands where

  module _ (f : Function) (none : first_result Intrinsic.CoroBegin f ≡ None) where
    abbrev g : Function
    g = with_begin n f

    incoming_same : (to : ℕ) (is : List Incoming) → incoming_uses g to is ≡ incoming_uses f to is
    incoming_same to [] = refl
    incoming_same to (i ∷ is) = λ k. uses_by (position_same n f i.from k) to (local_of i.value) ++ incoming_same to is k

    phis_same : (to : ℕ) (ps : List Phi) → phis_uses g to ps ≡ phis_uses f to ps
    phis_same to [] = refl
    phis_same to (p ∷ ps) = λ k. incoming_same to p.incoming k ++ phis_same to ps k

    blocks_same : (at : ℕ) (bs : List Block) → blocks_uses g at (map (named_block n) bs) ≡ blocks_uses f at bs
    blocks_same at [] = refl
    blocks_same at (b ∷ bs) = λ k. phis_same at b.phis k ++ blocks_same (at + 1) bs k

    edges_same : edge_uses g ≡ edge_uses f
    edges_same = blocks_same 0 f.blocks

    phis_at_same : (b : ℕ) → phis_at g b ≡ phis_at f b
    phis_at_same b = ap phis_in (block_same n f b) ∙ on (slice_get f.blocks b)
      where
        on : (o : Option Block) → phis_in (option_map (named_block n) o) ≡ phis_in o
        on None = refl
        on (Some c) = refl

    module _ (v : ℕ) (small : v < n) where
      makes_alike : (i : Instr) → result_of_call Intrinsic.CoroBegin i ≡ None → result_of i ≡ Some v ↔ result_of (named_instr n i) ≡ Some v
      makes_alike (Instr.Call result must_tail ty (Callee.Intrinsic Intrinsic.CoroBegin) args) e = (forth e, home)
        where
          forth : result ≡ None → result ≡ Some v → Some n ≡ Some v
          forth e h = let no = sym e ∙ h in absurd (cc)

          home : Some n ≡ Some v → result ≡ Some v
          home h = let same : n ≡ v = cc in absurd (omega (arith, same, small))
      makes_alike i e = ((λ h. h), (λ h. h))

      operands_same : (i : Instr) → instr_operands (named_instr n i) ≡ instr_operands i
      operands_same i = same_but_begin n instr_operands (λ result must_tail ty args. refl) i

      instr_alike : (i : Instr) → result_of_call Intrinsic.CoroBegin i ≡ None → IsAlike v (AtInstr i) (AtInstr (named_instr n i))
      instr_alike i e = (makes_alike i e, (subst (λ (xs : List Operand). IsListed v (locals_in xs)) (sym (operands_same i)), subst (λ (xs : List Operand). IsListed v (locals_in xs)) (operands_same i)))

      stands_at : (b at : ℕ) → IsAlike v (fetch f b at) (fetch g b at)
      stands_at b at = subst (IsAlike v (fetch f b at)) (sym (fetch_same n f b at)) (on (fetch f b at) refl)
        where
          on : (x : Fetched) → fetch f b at ≡ x → IsAlike v x (named_fetched n x)
          on Nowhere e = tt
          on (AtInstr i) e = instr_alike i (begin_unnamed f none (record { block = b; at = at }) i (instr_fetched (slice_get f.blocks b) at i e))
          on (AtTerm t) e = (refl, ((λ l. l), (λ l. l)))

      pub alike_named : AreAlike f g (λ b at. at) (λ b at. at) v
      alike_named = record {
        first = λ b. refl;
        next = λ b at. refl;
        within = λ b at. inl refl;
        stands = stands_at;
        backs = λ b at to e. e;
        fronts = λ b at to e. e;
        found = λ b x j e. record { at = x; is_at = inl refl };
        position = position_same n f;
        end = end_same n f;
        phis = λ b. (subst (IsListed v) (sym (phis_at_same b)), subst (IsListed v) (phis_at_same b));
        params = refl;
        edges = λ from to. (subst (IsListed _) (sym edges_same), subst (IsListed _) edges_same);
        resumes = λ b at. resume_same n f (record { block = b; at = at });
        destroys = λ b at. destroy_same n f (record { block = b; at = at });
      }

crossing_with : (f : Function) → HasNamedLocals f → first_result Intrinsic.CoroBegin f ≡ None → (all : List (ℕ × ℕ)) → AreCrossing f all ↔ AreCrossing (with_begin (length f.names) f) all
crossing_with f named none all = crossing_same f (with_begin (length f.names) f) (λ s. s) same all
  where
    same : AreAsCrossing f (with_begin (length f.names) f) (λ s. s)
    same = record {
      values = values_with (length f.names) f;
      suspends = points_where_same (length f.names) (is_call_of Intrinsic.CoroSuspend) (call_of_same (length f.names) Intrinsic.CoroSuspend) f ∙ sym (map_itself (suspends_of f));
      forth = λ v s here c. crosses_forth f (with_begin (length f.names) f) (λ b at. at) (λ b at. at) v (alike_named (length f.names) f none v (values_named f named v c.is_value)) (values_with (length f.names) f) s c;
      home = λ v s here c. crosses_home f (with_begin (length f.names) f) (λ b at. at) (λ b at. at) v (alike_named (length f.names) f none v (values_named f named v (subst (IsListed v) (values_with (length f.names) f) c.is_value))) (values_with (length f.names) f) s c;
    }

pub crossing_named : (f : Function) → HasNamedLocals f → (all : List (ℕ × ℕ)) → AreCrossing f all ↔ AreCrossing (with_begin_name f) all
crossing_named f named all = on (first_result Intrinsic.CoroBegin f) refl
  where
    on : (o : Option ℕ) → first_result Intrinsic.CoroBegin f ≡ o → AreCrossing f all ↔ AreCrossing (if_unnamed o f) all
    on None e = crossing_with f named e all
    on (Some n) e = ((λ h. h), (λ h. h))
