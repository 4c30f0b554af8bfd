-- A function and the same with uses of coro.frame renamed are alike.
use Rattle.std.proofs.Common.{◌≡◌, ℕ, ◌+◌, ◌⊎◌, inl, inr, Bool, true, false, List, [], ◌∷◌, ◌++◌, Some, None, Option, refl, sym, ap, ◌∙◌, subst, ◌↔◌}
use Rattle.std.proofs.lemmas.List.{map-append}
use Rattle.std.specs.Prelude.{map, option_map, option_to_list, slice_get, if◌then◌else◌, ◌||◌, ◌==◌}
use Rattle.rule_laws.specs.rule_uses.Uses.{local_of, locals_in, made_by_phis}
use Rattle.pass_early_proof.proofs.early.renaming.Actions.{renamed_fetched}
use Rattle.rule_laws.proofs.ir_laws.facts.Truth.{itself}
use Rattle.pass_early_proof.proofs.early.renaming.Parts.{block_same, call_of_same, destroy_same, end_same, fetch_same, points_where_same, position_same, resume_same}
use Rattle.pass_early_proof.specs.early.renaming.Passes.{renamed_block, renamed_coroutine}
use Rattle.pass_early_proof.specs.early.renaming.Regular.{IsPlain}
use Rattle.rule_laws.proofs.frames.alike_crossing.Alike.{AreAlike, IsAlike}
use Rattle.rule_laws.proofs.frames.alike_crossing.Crossing.{AreAsCrossing, crosses_forth, crosses_home, crossing_same}
use Rattle.rule_laws.proofs.frames.alike_crossing.Values.{values_hold}
use Rattle.pass_early_proof.specs.early.crossing.Plain.{HasPlainNames}
use Rattle.pass_early.specs.Renaming.{is_renamed, renamed, renamed_arg, renamed_callee, renamed_incoming, renamed_instr, renamed_phi, renamed_term, renamed_value}
use Rattle.pass_early.specs.declared.renaming.Renaming.{Renaming}
use Rattle.rule_laws.specs.flow_solver.Paths.{IsListed}
use Rattle.rule_laws.specs.ir_parts.Contents.{arg_operands, callee_operands, ending_operands, instr_operands, result_of}
use Rattle.ir_model.specs.Names.{position_of}
use Rattle.ir_model.specs.declared.instr.Case.{Case}
use Rattle.ir_model.specs.declared.instr.Incoming.{Incoming}
use Rattle.ir_model.specs.declared.instr.Instr.{Instr}
use Rattle.ir_model.specs.declared.instr.Phi.{Phi}
use Rattle.ir_model.specs.declared.instr.Terminator.{Terminator}
use Rattle.ir_model.specs.declared.module.Block.{Block}
use Rattle.ir_model.specs.declared.module.Function.{Function}
use Rattle.ir_model.specs.declared.operand.Arg.{Arg}
use Rattle.ir_model.specs.declared.operand.Callee.{Callee}
use Rattle.ir_model.specs.declared.operand.Intrinsic.{Intrinsic}
use Rattle.ir_model.specs.declared.operand.Operand.{Operand}
use Rattle.rule_laws.specs.ir_paths.Paths.{targets}
use Rattle.rule_laws.specs.ir_paths.Windows.{is_call_of}
use Rattle.rule_laws.specs.run_step.Step.{Fetched, Nowhere, AtInstr, AtTerm, fetch}
use Rattle.rule_laws.specs.frame_crossing.Crossing.{AreCrossing, suspends_of}
use Rattle.rule_laws.specs.frame_crossing.EdgeUses.{blocks_uses, edge_use, incoming_uses, phis_uses, uses_by}
use Rattle.rule_laws.specs.frame_crossing.Paths.{phis_at, phis_in}
use Rattle.rule_laws.specs.frame_crossing.Values.{blocks_defined, distinct, instrs_defined, is_apart, params_defined, phis_defined, result_unless, unless, is_token, values_of}
use Rattle.rule_laws.specs.frame_crossing.declared.edge_use.EdgeUse.{EdgeUse}

-- both or neither of two lists have something, also behind others that both have
pub listed_behind : {X : Type 0} (y : X) (a b xs ys : List X) → (IsListed y a ↔ IsListed y b) → (IsListed y xs ↔ IsListed y ys) → IsListed y (a ++ xs) ↔ IsListed y (b ++ ys)
listed_behind {X = X} y a b xs ys h k = (over a b xs ys h.0 k.0, over b a ys xs h.1 k.1)
  where
    left : (a xs : List X) → IsListed y a → IsListed y (a ++ xs)
    left [] xs l = absurd l
    left (x ∷ a) xs (inl e) = inl e
    left (x ∷ a) xs (inr l) = inr (left a xs l)

    right : (a xs : List X) → IsListed y xs → IsListed y (a ++ xs)
    right [] xs l = l
    right (x ∷ a) xs l = inr (right a xs l)

    over : (a b xs ys : List X) → (IsListed y a → IsListed y b) → (IsListed y xs → IsListed y ys) → IsListed y (a ++ xs) → IsListed y (b ++ ys)
    over [] b xs ys h k l = right b ys (k l)
    over (x ∷ a) b xs ys h k (inl e) = left b ys (h (inl e))
    over (x ∷ a) b xs ys h k (inr l) = over a b xs ys (λ m. h (inr m)) k l

module _ (r : Renaming) where
  -- ---- values

  result_same : (i : Instr) → result_of (renamed_instr r i) ≡ result_of i
  result_same (Instr.Binary name op flags ty a b) = refl
  result_same (Instr.Icmp name pred ty a b) = refl
  result_same (Instr.Select name x a b) = refl
  result_same (Instr.Cast name op nneg arg to) = refl
  result_same (Instr.Alloca name ty align) = refl
  result_same (Instr.Load name ty p align) = refl
  result_same (Instr.Store arg p align) = refl
  result_same (Instr.Gep name inbounds ty base indices) = refl
  result_same (Instr.Call result must_tail ty callee args) = refl

  apart_same : (i : Instr) → is_apart (renamed_instr r i) ≡ is_apart i
  apart_same (Instr.Call result must_tail ty (Callee.Named n) args) = refl
  apart_same (Instr.Call result must_tail ty (Callee.Allocator a) args) = refl
  apart_same (Instr.Call result must_tail ty (Callee.Intrinsic j) args) = refl
  apart_same (Instr.Call result must_tail ty (Callee.Local n) args) = refl
  apart_same (Instr.Binary name op flags ty a b) = refl
  apart_same (Instr.Icmp name pred ty a b) = refl
  apart_same (Instr.Select name x a b) = refl
  apart_same (Instr.Cast name op nneg arg to) = refl
  apart_same (Instr.Alloca name ty align) = refl
  apart_same (Instr.Load name ty p align) = refl
  apart_same (Instr.Store arg p align) = refl
  apart_same (Instr.Gep name inbounds ty base indices) = refl

  instrs_same : (is : List Instr) → instrs_defined (map (renamed_instr r) is) ≡ instrs_defined is
  instrs_same [] = refl
  instrs_same (i ∷ is) = λ k. result_unless (apart_same i k) (result_same i k) ++ instrs_same is k

  phis_same : (ps : List Phi) → phis_defined (map (renamed_phi r) ps) ≡ phis_defined ps
  phis_same [] = refl
  phis_same (p ∷ ps) = λ k. unless (is_token p.ty) p.result ++ phis_same ps k

  blocks_same : (bs : List Block) → blocks_defined (map (renamed_block r) bs) ≡ blocks_defined bs
  blocks_same [] = refl
  blocks_same (b ∷ bs) = λ k. phis_same b.phis k ++ (instrs_same b.instrs k ++ blocks_same bs k)

  pub values_same : (f : Function) → values_of (renamed_coroutine r f) ≡ values_of f
  values_same f = λ k. distinct [] (params_defined f.params ++ blocks_same f.blocks k)

  -- ---- operands

  args_renamed : (args : List Arg) → arg_operands (map (renamed_arg r) args) ≡ map (renamed r) (arg_operands args)
  args_renamed [] = refl
  args_renamed (a ∷ args) = λ k. renamed r a.value ∷ args_renamed args k

  callee_renamed : (c : Callee) → callee_operands (renamed_callee r c) ≡ map (renamed r) (callee_operands c)
  callee_renamed (Callee.Named n) = refl
  callee_renamed (Callee.Allocator a) = refl
  callee_renamed (Callee.Intrinsic i) = refl
  callee_renamed (Callee.Local n) = refl

  operands_renamed : (i : Instr) → instr_operands (renamed_instr r i) ≡ map (renamed r) (instr_operands i)
  operands_renamed (Instr.Binary name op flags ty a b) = refl
  operands_renamed (Instr.Icmp name pred ty a b) = refl
  operands_renamed (Instr.Select name x a b) = refl
  operands_renamed (Instr.Cast name op nneg arg to) = refl
  operands_renamed (Instr.Alloca name ty align) = refl
  operands_renamed (Instr.Load name ty p align) = refl
  operands_renamed (Instr.Store arg p align) = refl
  operands_renamed (Instr.Gep name inbounds ty base indices) = λ k. renamed r base ∷ args_renamed indices k
  operands_renamed (Instr.Call result must_tail ty callee args) =
      (λ k. callee_renamed callee k ++ args_renamed args k) ∙ sym (map-append (renamed r) (callee_operands callee) (arg_operands args))

  module _ (v : ℕ) (plain : IsPlain r v) where
    -- v is the new value where it is the value
    pub value_is : (n : ℕ) → (v ≡ n) ↔ (v ≡ renamed_value r n)
    value_is n = ((λ e. e ∙ sym (stays (ap (is_renamed r) (sym e) ∙ plain.stays))), home (is_renamed r n) refl)
      where
        stays : is_renamed r n ≡ false → renamed_value r n ≡ n
        stays e = ap (λ (b : Bool). if b then r.to else n) e

        home : (b : Bool) → is_renamed r n ≡ b → v ≡ renamed_value r n → v ≡ n
        home true e h =
            let to : v ≡ r.to = h ∙ ap (λ (b : Bool). if b then r.to else n) e in
            let yes : (v == r.to) ≡ true = ap (λ (x : ℕ). x == r.to) to ∙ itself r.to in
            let no = sym yes ∙ plain.is_other in
            absurd (cc)
        home false e h = h ∙ stays e

    local_listed : (x : Operand) → IsListed v (option_to_list (local_of x)) ↔ IsListed v (option_to_list (local_of (renamed r x)))
    local_listed (Operand.Local n) = (forth, home)
      where
        forth : (v ≡ n) ⊎ ⊥ → (v ≡ renamed_value r n) ⊎ ⊥
        forth (inl e) = inl ((value_is n).0 e)
        forth (inr l) = inr l

        home : (v ≡ renamed_value r n) ⊎ ⊥ → (v ≡ n) ⊎ ⊥
        home (inl e) = inl ((value_is n).1 e)
        home (inr l) = inr l
    local_listed (Operand.Global n) = ((λ l. l), (λ l. l))
    local_listed (Operand.Number z) = ((λ l. l), (λ l. l))
    local_listed Operand.True = ((λ l. l), (λ l. l))
    local_listed Operand.False = ((λ l. l), (λ l. l))
    local_listed Operand.Null = ((λ l. l), (λ l. l))
    local_listed Operand.None = ((λ l. l), (λ l. l))
    local_listed Operand.Poison = ((λ l. l), (λ l. l))

    locals_listed : (xs : List Operand) → IsListed v (locals_in xs) ↔ IsListed v (locals_in (map (renamed r) xs))
    locals_listed [] = ((λ l. l), (λ l. l))
    locals_listed (x ∷ xs) = listed_behind v (option_to_list (local_of x)) (option_to_list (local_of (renamed r x))) (locals_in xs) (locals_in (map (renamed r) xs)) (local_listed x) (locals_listed xs)

    instr_listed : (i : Instr) → IsListed v (locals_in (instr_operands i)) ↔ IsListed v (locals_in (instr_operands (renamed_instr r i)))
    instr_listed i = subst (λ (xs : List Operand). IsListed v (locals_in (instr_operands i)) ↔ IsListed v (locals_in xs)) (sym (operands_renamed i)) (locals_listed (instr_operands i))

    one_more : (x : Operand) (xs : List Operand) → IsListed v (locals_in (x ∷ xs)) ↔ IsListed v (locals_in (renamed r x ∷ xs))
    one_more x xs = listed_behind v (option_to_list (local_of x)) (option_to_list (local_of (renamed r x))) (locals_in xs) (locals_in xs) (local_listed x) ((λ l. l), (λ l. l))

    term_listed : (t : Terminator) → IsListed v (locals_in (ending_operands t)) ↔ IsListed v (locals_in (ending_operands (renamed_term r t)))
    term_listed (Terminator.Jump label) = ((λ l. l), (λ l. l))
    term_listed (Terminator.Branch x a b) = one_more x []
    term_listed (Terminator.Switch arg default cases) = one_more arg.value (map (λ (k : Case). k.arg.value) cases)
    term_listed (Terminator.Ret None) = ((λ l. l), (λ l. l))
    term_listed (Terminator.Ret (Some a)) = one_more a.value []
    term_listed Terminator.Unreachable = ((λ l. l), (λ l. l))

    targets_same : (t : Terminator) → targets (renamed_term r t) ≡ targets t
    targets_same (Terminator.Jump label) = refl
    targets_same (Terminator.Branch x a b) = refl
    targets_same (Terminator.Switch arg default cases) = refl
    targets_same (Terminator.Ret a) = refl
    targets_same Terminator.Unreachable = refl

    alike_renamed : (x : Fetched) → IsAlike v x (renamed_fetched r x)
    alike_renamed Nowhere = tt
    alike_renamed (AtInstr i) = (((λ e. result_same i ∙ e), (λ e. sym (result_same i) ∙ e)), instr_listed i)
    alike_renamed (AtTerm t) = (targets_same t, term_listed t)

    -- ---- uses on edges

    module _ (f : Function) where
      abbrev g : Function
      g = renamed_coroutine r f

      -- of two uses on edges, both are this one or neither is
      use_is : (from to p q w x : ℕ) → (v ≡ w → v ≡ x) → edge_use from to v ≡ edge_use p q w → edge_use from to v ≡ edge_use p q x
      use_is from to p q w x h e =
          let s : from ≡ p = ap (λ (u : EdgeUse). u.from) e in
          let t : to ≡ q = ap (λ (u : EdgeUse). u.to) e in
          let z = h (ap (λ (u : EdgeUse). u.value) e) in
          λ k. edge_use (s k) (t k) (z k)

      by_listed : (from to p q : ℕ) (x : Operand) → IsListed (edge_use from to v) (uses_by p q (local_of x)) ↔ IsListed (edge_use from to v) (uses_by p q (local_of (renamed r x)))
      by_listed from to p q (Operand.Local n) = (forth, home)
        where
          forth : (edge_use from to v ≡ edge_use p q n) ⊎ ⊥ → (edge_use from to v ≡ edge_use p q (renamed_value r n)) ⊎ ⊥
          forth (inl e) = inl (use_is from to p q n (renamed_value r n) (value_is n).0 e)
          forth (inr l) = inr l

          home : (edge_use from to v ≡ edge_use p q (renamed_value r n)) ⊎ ⊥ → (edge_use from to v ≡ edge_use p q n) ⊎ ⊥
          home (inl e) = inl (use_is from to p q (renamed_value r n) n (value_is n).1 e)
          home (inr l) = inr l
      by_listed from to p q (Operand.Global n) = ((λ l. l), (λ l. l))
      by_listed from to p q (Operand.Number z) = ((λ l. l), (λ l. l))
      by_listed from to p q Operand.True = ((λ l. l), (λ l. l))
      by_listed from to p q Operand.False = ((λ l. l), (λ l. l))
      by_listed from to p q Operand.Null = ((λ l. l), (λ l. l))
      by_listed from to p q Operand.None = ((λ l. l), (λ l. l))
      by_listed from to p q Operand.Poison = ((λ l. l), (λ l. l))

      incoming_listed : (from to q : ℕ) (is : List Incoming) → IsListed (edge_use from to v) (incoming_uses f q is) ↔ IsListed (edge_use from to v) (incoming_uses g q (map (renamed_incoming r) is))
      incoming_listed from to q [] = ((λ l. l), (λ l. l))
      incoming_listed from to q (i ∷ is) =
          listed_behind (edge_use from to v) (uses_by (position_of f i.from) q (local_of i.value)) (uses_by (position_of g i.from) q (local_of (renamed r i.value))) (incoming_uses f q is) (incoming_uses g q (map (renamed_incoming r) is))
          (subst (λ (p : ℕ). IsListed (edge_use from to v) (uses_by (position_of f i.from) q (local_of i.value)) ↔ IsListed (edge_use from to v) (uses_by p q (local_of (renamed r i.value)))) (sym (position_same r f i.from)) (by_listed from to (position_of f i.from) q i.value))
          (incoming_listed from to q is)

      phis_listed : (from to q : ℕ) (ps : List Phi) → IsListed (edge_use from to v) (phis_uses f q ps) ↔ IsListed (edge_use from to v) (phis_uses g q (map (renamed_phi r) ps))
      phis_listed from to q [] = ((λ l. l), (λ l. l))
      phis_listed from to q (p ∷ ps) =
          listed_behind (edge_use from to v) (incoming_uses f q p.incoming) (incoming_uses g q (map (renamed_incoming r) p.incoming)) (phis_uses f q ps) (phis_uses g q (map (renamed_phi r) ps))
          (incoming_listed from to q p.incoming) (phis_listed from to q ps)

      blocks_listed : (from to at : ℕ) (bs : List Block) → IsListed (edge_use from to v) (blocks_uses f at bs) ↔ IsListed (edge_use from to v) (blocks_uses g at (map (renamed_block r) bs))
      blocks_listed from to at [] = ((λ l. l), (λ l. l))
      blocks_listed from to at (b ∷ bs) =
          listed_behind (edge_use from to v) (phis_uses f at b.phis) (phis_uses g at (map (renamed_phi r) b.phis)) (blocks_uses f (at + 1) bs) (blocks_uses g (at + 1) (map (renamed_block r) bs))
          (phis_listed from to at b.phis) (blocks_listed from to (at + 1) bs)

      -- ---- the two functions

      made_same : (before : List ℕ) (ps : List Phi) → made_by_phis before (map (renamed_phi r) ps) ≡ made_by_phis before ps
      made_same before [] = refl
      made_same before (p ∷ ps) = made_same (p.result ∷ before) ps

      phis_at_same : (b : ℕ) → phis_at g b ≡ phis_at f b
      phis_at_same b = ap phis_in (block_same r f b) ∙ on (slice_get f.blocks b)
        where
          on : (o : Option Block) → phis_in (option_map (renamed_block r) o) ≡ phis_in o
          on None = refl
          on (Some c) = made_same [] c.phis

      pub renamed_alike : AreAlike f g (λ b at. at) (λ b at. at) v
      renamed_alike = record {
        first = λ b. refl;
        next = λ b at. refl;
        within = λ b at. inl refl;
        stands = λ b at. subst (IsAlike v (fetch f b at)) (sym (fetch_same r f b at)) (alike_renamed (fetch f b at));
        backs = λ b at to e. e;
        fronts = λ b at to e. e;
        found = λ b x j e. record { at = x; is_at = inl refl };
        position = position_same r f;
        end = end_same r f;
        phis = λ b. (subst (IsListed v) (sym (phis_at_same b)), subst (IsListed v) (phis_at_same b));
        params = refl;
        edges = λ from to. blocks_listed from to 0 f.blocks;
        resumes = λ b at. resume_same r f (record { block = b; at = at });
        destroys = λ b at. destroy_same r f (record { block = b; at = at });
      }

-- ---- all values

not_begin : (i : Instr) → is_apart i ≡ false → (is_call_of Intrinsic.CoroBegin i ≡ false) × (is_call_of Intrinsic.CoroFrame i ≡ false)
not_begin (Instr.Call result must_tail ty callee args) e = apart (is_call_of Intrinsic.CoroBegin (Instr.Call result must_tail ty callee args)) (is_call_of Intrinsic.CoroFrame (Instr.Call result must_tail ty callee args)) (either_false _ _ e)
  where
    either_false : (a b : Bool) → (a || b) ≡ false → b ≡ false
    either_false true b h = absurd (cc)
    either_false false b h = h

    apart : (a b : Bool) → (a || b) ≡ false → (a ≡ false) × (b ≡ false)
    apart true b h = absurd (cc)
    apart false b h = (refl, h)
not_begin _ e = (refl, refl)

pub values_plain : (r : Renaming) (f : Function) → HasPlainNames f r → (v : ℕ) → IsListed v (values_of f) → IsPlain r v
values_plain r f plain = values_hold (IsPlain r) f plain.params plain.phis
    (λ k b d j i v e a h. let no = not_begin i a in plain.results k b j i v d e h no.0 no.1)

pub map_itself : {A : Type 0} (xs : List A) → map (λ x. x) xs ≡ xs
map_itself [] = refl
map_itself (x ∷ xs) = ap (λ ys. x ∷ ys) (map_itself xs)

pub crossing_renamed : (f : Function) (r : Renaming) → HasPlainNames f r → (all : List (ℕ × ℕ)) → AreCrossing f all ↔ AreCrossing (renamed_coroutine r f) all
crossing_renamed f r plain all = crossing_same f (renamed_coroutine r f) (λ s. s) same all
  where
    same : AreAsCrossing f (renamed_coroutine r f) (λ s. s)
    same = record {
      values = values_same r f;
      suspends = points_where_same r (is_call_of Intrinsic.CoroSuspend) (is_call_of Intrinsic.CoroSuspend) (call_of_same r Intrinsic.CoroSuspend) f ∙ sym (map_itself (suspends_of f));
      forth = λ v s here c. crosses_forth f (renamed_coroutine r f) (λ b at. at) (λ b at. at) v (renamed_alike r v (values_plain r f plain v c.is_value) f) (values_same r f) s c;
      home = λ v s here c. crosses_home f (renamed_coroutine r f) (λ b at. at) (λ b at. at) v (renamed_alike r v (values_plain r f plain v (subst (IsListed v) (values_same r f) c.is_value)) f) (values_same r f) s c;
    }
