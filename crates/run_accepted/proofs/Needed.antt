-- What is needed behind a suspend crosses it, or is begin's value, or is the address of a slot that isn't the ramp's.
use Rattle.std.proofs.Common.{◌≡◌, inl, inr, ⊎_elim, ℕ, suc, Bool, true, false, List, [], ◌∷◌, Option, Some, None}
use Rattle.std.proofs.Common.{refl, sym, ap, ◌∙◌, subst}
use Rattle.std.specs.List.{list_all, list_any}
use Rattle.std.specs.Prelude.{IsTrue, not, option_and_then, option_to_list, slice_get, ◌==◌, ◌&&◌, ◌||◌, if◌then◌else◌}
use Rattle.pass_proofs.specs.flow_solver.Paths.{IsListed}
use Rattle.pass_proofs.specs.frame_crossing.Values.{all_defined, blocks_defined, is_apart, is_token, is_token_result, params_defined}
use Rattle.pass_proofs.specs.frame_crossing.Values.{values_of}
use Rattle.pass_proofs.proofs.frame_slots.Points.{where_complete}
use Rattle.pass_proofs.specs.ir_base.declared.outcome.Place.{Place}
use Rattle.pass_proofs.proofs.ir_laws.facts.Lists.{by_value}
use Rattle.pass_proofs.proofs.ir_laws.facts.Truth.{and_first, and_second, equal_numbers, holds, itself}
use Rattle.pass_proofs.specs.ir_parts.Contents.{ending_operands, instr_operands, part_operands}
use Rattle.pass_proofs.specs.ir_parts.Parts.{OfPhi, Part, first_part, parts_of}
use Rattle.pass_proofs.specs.ir_model.declared.instr.Incoming.{Incoming}
use Rattle.pass_proofs.specs.ir_model.declared.instr.Terminator.{Terminator}
use Rattle.pass_proofs.specs.ir_model.declared.operand.Operand.{Operand}
use Rattle.pass_proofs.specs.rule_uses.Uses.{local_of, locals_in}
use Rattle.pass_proofs.specs.frame_crossing.EdgeUses.{IsUsedOn}
use Rattle.pass_proofs.specs.frame_crossing.Paths.{used_by}
use Rattle.pass_proofs.proofs.rule_laws.frames.rows.EdgeUses.{taken_by}
use Rattle.pass_proofs.proofs.rule_laws.rules.counted.PartFacts.{all_at}
use Rattle.pass_proofs.proofs.rule_laws.rules.local_rules.Carried.{passing}
use Rattle.pass_proofs.proofs.rule_laws.rules.path_rules.Holding.{HoldsOf, of_parts}
use Rattle.pass_proofs.specs.rule_laws.rules.unused.Unused.{AreFramesUnused, is_other, names_value}
use Rattle.pass_proofs.proofs.ir_laws.paths.renamed.Uses.{stands_in}
use Rattle.pass_proofs.proofs.ir_laws.paths.source_rules.Locals.{listed_either, listed_left, listed_right}
use Rattle.pass_proofs.specs.ir_model.Names.{position_of}
use Rattle.pass_proofs.specs.ir_model.Ty.{Ty, array, int, named, ptr, structure, token}
use Rattle.pass_proofs.specs.ir_model.declared.instr.Instr.{Instr}
use Rattle.pass_proofs.specs.ir_model.declared.instr.Phi.{Phi}
use Rattle.pass_proofs.specs.ir_model.declared.module.Block.{Block}
use Rattle.pass_proofs.specs.ir_model.declared.module.Function.{Function}
use Rattle.pass_proofs.specs.ir_model.declared.module.Module.{Module}
use Rattle.pass_proofs.specs.ir_model.declared.module.Param.{Param}
use Rattle.pass_proofs.specs.ir_model.declared.operand.Arg.{Arg}
use Rattle.pass_proofs.specs.ir_model.declared.operand.Callee.{Callee}
use Rattle.pass_proofs.specs.ir_model.declared.operand.Intrinsic.{Intrinsic}
use Rattle.pass_proofs.specs.ir_paths.Paths.{has_point}
use Rattle.pass_proofs.specs.ir_paths.Slots.{IsRampSlot}
use Rattle.pass_proofs.specs.ir_paths.Windows.{call_result, instr_at, instr_in, is_call_of, points_where}
use Rattle.pass_proofs.specs.ir_paths.declared.point.Point.{Point}
use Rattle.pass_proofs.proofs.pass_kept_proof.Crossing.{needed_crosses}
use Rattle.pass_proofs.proofs.pass_kept_proof.Read.{given_result, param_listed, read_here, read_on_edge}
use Rattle.pass_proofs.proofs.pass_kept_proof.Rules.{where_is}
use Rattle.pass_proofs.specs.pass_kept_proof.Crossing as Defined
use Rattle.pass_proofs.specs.pass_kept_proof.Crossing.{IsDefinedBefore, IsDefinite, gives_name, is_remade, remakes}
use Rattle.pass_proofs.specs.pass_kept_proof.Handed.{HasPlainNames}
use Rattle.pass_proofs.specs.pass_kept_proof.Needed
use Rattle.pass_proofs.specs.pass_kept_proof.Needed.{IsNeeded, IsNeededBehind, IsNeededOn, IsReached, given_by, label_of_block}
use Rattle.pass_proofs.specs.pass_kept_proof.Needed.{phis_give, phis_read, reads_at}
use Rattle.pass_proofs.specs.pass_kept_proof.SuspendRules.{IsCallAt, IsGivenBy, KeepsSuspendRules}
use Rattle.pass_renewed_meaning.specs.pass_renewed_proof.SlotRules.{IsMadeOnce}
use Rattle.pass_proofs.proofs.early.save_simulation.Suspending.{fetch_at}
use Rattle.pass_proofs.proofs.kept.sources.Definite.{once, scalar_read, scalar_taken}
use Rattle.pass_proofs.proofs.kept.sources.Scalars.{IsScalarValue}
use Rattle.pass_proofs.proofs.kept.sources.Tokens.{IsNoScalar}
use Rattle.pass_proofs.proofs.kept.sources.Windows.{phis_listed}
use Rattle.pass_proofs.proofs.rule_laws.frames.crossing.Values.{distinct_has}
use Rattle.pass_proofs.proofs.rule_laws.frames.needed.Made.{block_defined, instr_defined, param_defined, param_found, phi_defined}
use Rattle.pass_proofs.proofs.rule_laws.frames.needed.Made.{phi_found}
use Rattle.pass_proofs.proofs.rule_laws.rules.counted.DefinedKinds.{kind_of_instr, kind_of_param, kind_of_phi}
use Rattle.pass_proofs.proofs.rule_laws.rules.renamed.Uses.{result_spelt}
use Rattle.pass_proofs.proofs.rule_laws.rules.source_rules.Once.{one_begin}
use Rattle.pass_proofs.proofs.rule_laws.rules.sources.Places.{instr_there, point, term_there}
use Rattle.pass_proofs.specs.rule_laws.rules.function_rules.Kept.{KeepsFunctionRules}
use Rattle.pass_proofs.specs.rule_shape.OneOfEach.{wrong_call}
use Rattle.pass_proofs.specs.rule_values.Kinds.{call_kind, instr_kind, kind_if, kind_of, result_kind, value_kind}
use Rattle.pass_proofs.specs.rule_values.declared.kinds.Kind.{Kind}
use Rattle.pass_proofs.specs.run_framed.Framed.{begin_name}
use Rattle.run_accepted.proofs.Once.{made_once}
use Rattle.run_accepted.proofs.RampSlots.{ramp_unneeded}
use Rattle.pass_renewed_meaning.proofs.run_hooks.alive.Ramps.{is_ramp_or_not}
use Rattle.pass_proofs.specs.run_laws.changed.Changed.{result_of}
use Rattle.pass_proofs.specs.run_step.Step.{AtInstr, AtTerm, Fetched, Nowhere, fetch, phis_of}

-- ---- tokens are of no scalar type

no_token : (ty : Ty) → is_token ty ≡ true → IsNoScalar (Some (kind_of ty))
no_token token e = token_named
  where
    token_named : IsNoScalar (Some (kind_of token))
    token_named (int w) s h = absurd (cc)
    token_named ptr s h = absurd (cc)
    token_named token s h = absurd (cc)
    token_named (array n t) s h = absurd (cc)
    token_named (structure ts) s h = absurd (cc)
    token_named (named n) s h = absurd (cc)
no_token (int w) e = absurd (cc)
no_token ptr e = absurd (cc)
no_token (array n t) e = absurd (cc)
no_token (structure ts) e = absurd (cc)
no_token (named n) e = absurd (cc)

none_named : IsNoScalar None
none_named t s h = absurd (cc)

if_named : (r : ℕ) (kind : Kind) (v : ℕ) → IsNoScalar (Some kind) → IsNoScalar (kind_if r kind v)
if_named r kind v h = on (r == v)
  where
    on : (b : Bool) → IsNoScalar (if b then Some kind else None)
    on true = h
    on false = none_named

if_called : (r : Option ℕ) (kind : Kind) (v : ℕ) → IsNoScalar (Some kind) → IsNoScalar (call_kind r kind v)
if_called None kind v h = none_named
if_called (Some r) kind v h = if_named r kind v h

saved_token : IsNoScalar (Some Kind.Saved)
saved_token (int w) s h = absurd (cc)
saved_token ptr s h = absurd (cc)
saved_token token s h = absurd (cc)
saved_token (array n t) s h = absurd (cc)
saved_token (structure ts) s h = absurd (cc)
saved_token (named n) s h = absurd (cc)

result_token : (callee : Callee) (ty : Option Ty) → is_token_result ty ≡ true → IsNoScalar (Some (result_kind callee ty))
result_token (Callee.Intrinsic Intrinsic.CoroSave) (Some t) e = saved_token
result_token callee None e = absurd (cc)
result_token callee (Some t) e = no_token t e

-- what is set apart and isn't made anew is a token
apart_token : (i : Instr) (v : ℕ) → is_apart i ≡ true → remakes i ≡ false → IsNoScalar (instr_kind i v)
apart_token (Instr.Binary r op flags ty a b) v e n = if_named r (kind_of ty) v (no_token ty e)
apart_token (Instr.Icmp r pred ty a b) v e n = absurd (cc)
apart_token (Instr.Select r c a b) v e n = if_named r (kind_of a.ty) v (no_token a.ty e)
apart_token (Instr.Cast r op nneg arg to) v e n = if_named r (kind_of to) v (no_token to e)
apart_token (Instr.Alloca r ty align) v e n = absurd (cc)
apart_token (Instr.Load r ty address align) v e n = if_named r (kind_of ty) v (no_token ty e)
apart_token (Instr.Store arg address align) v e n = absurd (cc)
apart_token (Instr.Gep r inbounds ty base indices) v e n = absurd (cc)
apart_token (Instr.Call r must_tail ty callee args) v e n =
    if_called r (result_kind callee ty) v (result_token callee ty (without (is_token_result ty) _ e n))
  where
    without : (a b : Bool) → (a || b) ≡ true → b ≡ false → a ≡ true
    without true b h k = refl
    without false b h k = let no : true ≡ false = sym h ∙ k in absurd (cc)

-- ---- what is made anew

pub record IsRemadeAt (f : Function) (v : ℕ) : Type 0 where
  pub place : Point
  pub instr : Instr
  pub stands : fetch f place.block place.at ≡ AtInstr instr
  pub remade : remakes instr ≡ true
  pub gives : given_by instr ≡ Some v

named_by : (v : ℕ) (o : Option ℕ) → gives_name v o ≡ true → o ≡ Some v
named_by v None e = absurd (cc)
named_by v (Some u) e = ap Some (equal_numbers u v e)

record IsRemadeIn (is : List Instr) (v : ℕ) : Type 0 where
  at : ℕ
  instr : Instr
  there : slice_get is at ≡ Some instr
  remade : remakes instr ≡ true
  gives : given_by instr ≡ Some v

remade_in : (v : ℕ) (is : List Instr) → list_any (λ i. remakes i && gives_name v (given_by i)) is ≡ true
    → IsRemadeIn is v
remade_in v [] h = absurd (cc)
remade_in v (i ∷ is) h = on (remakes i && gives_name v (given_by i)) refl h (remade_in v is)
  where
    on : (b : Bool) → (remakes i && gives_name v (given_by i)) ≡ b
        → (b || list_any (λ j. remakes j && gives_name v (given_by j)) is) ≡ true
        → (list_any (λ j. remakes j && gives_name v (given_by j)) is ≡ true → IsRemadeIn is v) → IsRemadeIn (i ∷ is) v
    on true e k rest = record {
      at = 0;
      instr = i;
      there = refl;
      remade = and_first (remakes i) (gives_name v (given_by i)) e;
      gives = named_by v (given_by i) (and_second (remakes i) (gives_name v (given_by i)) e);
    }
    on false e k rest = let x = rest k in record {
      at = suc x.at;
      instr = x.instr;
      there = x.there;
      remade = x.remade;
      gives = x.gives;
    }

record IsRemadeBy (bs : List Block) (v : ℕ) : Type 0 where
  block : ℕ
  own : Block
  got : slice_get bs block ≡ Some own
  found : IsRemadeIn own.instrs v

remade_by : (v : ℕ) (bs : List Block)
    → list_any (λ b. list_any (λ i. remakes i && gives_name v (given_by i)) b.instrs) bs ≡ true → IsRemadeBy bs v
remade_by v [] h = absurd (cc)
remade_by v (b ∷ bs) h = on (list_any (λ i. remakes i && gives_name v (given_by i)) b.instrs) refl h (remade_by v bs)
  where
    on : (t : Bool) → list_any (λ i. remakes i && gives_name v (given_by i)) b.instrs ≡ t
        → (t || list_any (λ c. list_any (λ i. remakes i && gives_name v (given_by i)) c.instrs) bs) ≡ true
        → (list_any (λ c. list_any (λ i. remakes i && gives_name v (given_by i)) c.instrs) bs ≡ true → IsRemadeBy bs v)
        → IsRemadeBy (b ∷ bs) v
    on true e k rest = record { block = 0; own = b; got = refl; found = remade_in v b.instrs e }
    on false e k rest = let x = rest k in record { block = suc x.block; own = x.own; got = x.got; found = x.found }

remade_at : (f : Function) (v : ℕ) → is_remade f v ≡ true → IsRemadeAt f v
remade_at f v h =
    let x = remade_by v f.blocks h in
    record {
      place = point x.block x.found.at;
      instr = x.found.instr;
      stands = fetch_at f (point x.block x.found.at) x.found.instr
          (ap (λ (o : Option Block). instr_in o x.found.at) x.got ∙ x.found.there);
      remade = x.found.remade;
      gives = x.found.gives;
    }

-- ---- what is read

-- something reads the value, or a phi takes it on an edge
pub data IsRead (f : Function) (v : ℕ) : Type 0 where
  Here : (block at : ℕ) → IsTrue (reads_at v (fetch f block at)) → IsRead f v
  Taken : (from block : ℕ) → IsTrue (phis_read v from (phis_of (slice_get f.blocks block))) → IsRead f v

module _ (f : Function) (v : ℕ) where
  read_somewhere : {block at : ℕ} → IsNeeded f v block at → IsRead f v
  read_somewhere (Needed.read {block} {at} h) = Here block at h
  read_somewhere (Needed.next h n) = read_somewhere n
  read_somewhere (Needed.phi {block} {at} label b h) = Taken (label_of_block f block) (position_of f label) h
  read_somewhere (Needed.enter label b h n) = read_somewhere n

  read_from : (block label : ℕ) → IsNeededOn f v block label → IsRead f v
  read_from block label (inl h) = Taken (label_of_block f block) (position_of f label) h
  read_from block label (inr x) = read_somewhere x.1

  pub read_behind : (s : Point) → IsNeededBehind f s v → IsRead f v
  read_behind s (inl h) = read_from s.block _ h
  read_behind s (inr h) = read_from s.block _ h

-- what no operand names isn't read
module _ (k : ℕ) (f : Function) (v : ℕ) (none : first_part (names_value v) (parts_of k f) ≡ None) where
  abbrev Free : Place × Part → Type 0
  Free x = names_value v x.0 x.1 ≡ false

  parts : HoldsOf Free k f
  parts = of_parts Free k f (passing (names_value v) (parts_of k f) none)

  no_local : (x : Operand) → is_other v x ≡ true → x ≡ Operand.Local v → ⊥
  no_local x e same =
      let here : (v == v) ≡ true = itself v in
      let bad : false ≡ true = sym (ap not here) ∙ ap (is_other v) (sym same) ∙ e in
      absurd (cc)

  one_unlisted : (x : Operand) → is_other v x ≡ true → IsListed v (option_to_list (local_of x)) → ⊥
  one_unlisted (Operand.Local n) e (inl same) = no_local (Operand.Local n) e (ap (λ (m : ℕ). Operand.Local m) (sym same))
  one_unlisted (Operand.Local n) e (inr l) = absurd l
  one_unlisted _ e l = absurd l

  unlisted : (xs : List Operand) → list_all (is_other v) xs ≡ true → IsListed v (locals_in xs) → ⊥
  unlisted [] e l = absurd l
  unlisted (x ∷ xs) e l = ⊎_elim
      (λ a. one_unlisted x (and_first (is_other v x) (list_all (is_other v) xs) e) a)
      (λ b. unlisted xs (and_second (is_other v x) (list_all (is_other v) xs) e) b)
      (listed_either v (option_to_list (local_of x)) (locals_in xs) l)

  not_used : (q at : ℕ) → IsListed v (used_by (fetch f q at)) → ⊥
  not_used q at = on (fetch f q at) refl
    where
      on : (x : Fetched) → fetch f q at ≡ x → IsListed v (used_by x) → ⊥
      on Nowhere e l = absurd l
      on (AtInstr i) e l =
          let x = stands_in f (point q at) i (instr_there f q at i e) in
          unlisted (instr_operands i) (holds (list_all (is_other v) (instr_operands i))
          ((parts.blocks q x.block x.got).instrs at i x.stands)) l
      on (AtTerm t) e l =
          let x = term_there f q at t e in
          unlisted (ending_operands t) (ap (λ (y : Terminator). list_all (is_other v) (ending_operands y)) (sym x.is)
          ∙ holds (list_all (is_other v) (ending_operands x.own.term)) (parts.blocks q x.own x.got).ending) l

  not_on : (from to : ℕ) → IsUsedOn f v from to → ⊥
  not_on from to l =
      let x = taken_by f v from to l in
      let all = holds (list_all (is_other v) (part_operands (OfPhi x.phi)))
      ((parts.blocks to x.block x.got).phis x.at x.phi x.stands) in
      no_local x.incoming.value (all_at (λ (i : Incoming). is_other v i.value) x.phi.incoming
      (by_value (is_other v) x.phi.incoming ∙ all) x.index x.incoming x.there) x.value

  pub unread : IsRead f v → ⊥
  unread (Here block at h) = not_used block at (read_here v (fetch f block at) h)
  unread (Taken from block h) = on (slice_get f.blocks block) refl h
    where
      on : (o : Option Block) → slice_get f.blocks block ≡ o → phis_read v from (phis_of o) ≡ true → ⊥
      on None e r = absurd (cc)
      on (Some b) e r = not_on (position_of f from) block (read_on_edge f v from block b e r)

-- ---- values

module _ (m : Module) (k : ℕ) (f : Function) (rules : KeepsFunctionRules m k f) (v : ℕ) where
  -- what is read is of a scalar type
  scalar : IsRead f v → IsScalarValue (value_kind f) v
  scalar (Here block at h) = scalar_read m k f rules v block at h
  scalar (Taken from block h) = scalar_taken m k f rules v from block h

  not_scalar : (kind : Option Kind) → value_kind f v ≡ kind → IsNoScalar kind → IsScalarValue (value_kind f) v → ⊥
  not_scalar kind e none s = subst IsNoScalar (sym e) none s.0 s.1 s.2

  -- what is defined and no token is one of the values
  listed_block : IsListed v (blocks_defined f.blocks) → IsListed v (values_of f)
  listed_block h = distinct_has [] (all_defined f) v
      (listed_right v (params_defined f.params) (blocks_defined f.blocks) h)

  module _ (other : IsListed v (values_of f) → ⊥) (s : IsScalarValue (value_kind f) v) where
    no_param : (at : ℕ) (p : Param) → slice_get f.params at ≡ Some p → p.name ≡ v → ⊥
    no_param at p e same = on (is_token p.ty) refl
      where
        on : (b : Bool) → is_token p.ty ≡ b → ⊥
        on true t = not_scalar (Some (kind_of p.ty)) (kind_of_param f v (once m k f rules v) at p e same)
            (no_token p.ty t) s
        on false t = other (distinct_has [] (all_defined f) v
            (listed_left v (params_defined f.params) (blocks_defined f.blocks) (param_defined v f.params at p e same t)))

    no_phi_at : (block : ℕ) (b : Block) → slice_get f.blocks block ≡ Some b → (at : ℕ) (p : Phi)
        → slice_get b.phis at ≡ Some p → p.result ≡ v → ⊥
    no_phi_at block b got at p e same = on (is_token p.ty) refl
      where
        on : (t : Bool) → is_token p.ty ≡ t → ⊥
        on true t = not_scalar (Some (kind_of p.ty)) (kind_of_phi f v (once m k f rules v) block b at p got e same)
            (no_token p.ty t) s
        on false t = other (listed_block (block_defined v f.blocks block b got
            (inl (phi_defined v b.phis at p e same t))))

    by_instr : (block at : ℕ) (i : Instr) → fetch f block at ≡ AtInstr i → given_by i ≡ Some v → IsRemadeAt f v
    by_instr block at i e g = on (remakes i) refl
      where
        made : result_of i ≡ Some v
        made = given_result i v g

        none : remakes i ≡ false → (b : Bool) → is_apart i ≡ b → ⊥
        none r true a =
            let x = stands_in f (point block at) i (instr_there f block at i e) in
            not_scalar (instr_kind i v) (kind_of_instr f v (once m k f rules v) block x.block at i x.got x.stands
            (result_spelt i ∙ made)) (apart_token i v a r) s
        none r false a =
            let x = stands_in f (point block at) i (instr_there f block at i e) in
            other (listed_block (block_defined v f.blocks block x.block x.got
            (inr (instr_defined v x.block.instrs at i x.stands (result_spelt i ∙ made) a))))

        on : (b : Bool) → remakes i ≡ b → IsRemadeAt f v
        on true r = record { place = point block at; instr = i; stands = e; remade = r; gives = g }
        on false r = absurd (none r (is_apart i) refl)

    defined_by : (b at : ℕ) → IsDefinedBefore f v b at → IsRemadeAt f v
    defined_by b at (Defined.by_param h l) =
        let x = param_found v f.params (param_listed v f.params h) in
        absurd (no_param x.at x.param x.there x.same)
    defined_by b at (Defined.by_phi block h l) = on (slice_get f.blocks block) refl h
      where
        on : (o : Option Block) → slice_get f.blocks block ≡ o → phis_give v (phis_of o) ≡ true → IsRemadeAt f v
        on None e k = absurd (cc)
        on (Some c) e k =
            let x = phi_found v c.phis (phis_listed v c.phis k) in
            absurd (no_phi_at block c e x.at x.phi x.there x.same)
    defined_by b at (Defined.by_instr block j g l) = on (fetch f block j) refl g
      where
        on : (x : Fetched) → fetch f block j ≡ x → IsGivenBy x v → IsRemadeAt f v
        on Nowhere e h = absurd h
        on (AtTerm t) e h = absurd h
        on (AtInstr i) e h = by_instr block j i e h

  -- what is needed behind a suspend and is none of the values is made anew
  other_remade : IsDefinite f → KeepsSuspendRules f → (s : Point) → IsReached f s.block s.at
      → IsCallAt Intrinsic.CoroSuspend f s → IsNeededBehind f s v → (IsListed v (values_of f) → ⊥) → IsRemadeAt f v
  other_remade definite kept s reached c n other = ⊎_elim (λ h. remade_at f v h)
      (λ h. defined_by other (scalar (read_behind f v s n)) s.block s.at h.defined)
      (needed_crosses f kept definite s v reached c n)

-- ---- begin's value, and slots

begin_is : (m : Module) (k : ℕ) (f : Function) → f.coroutine ≡ true → wrong_call k f ≡ None → (p : Point) (i : Instr)
    (v : ℕ) → instr_at f p ≡ Some i → is_call_of Intrinsic.CoroBegin i ≡ true → call_result i ≡ Some v
    → begin_name f ≡ Some v
begin_is m k f coroutine calls p i v e is result = on (slice_get (points_where (is_call_of Intrinsic.CoroBegin) f) 0) refl
  where
    on : (o : Option Point) → slice_get (points_where (is_call_of Intrinsic.CoroBegin) f) 0 ≡ o
        → option_and_then call_result (option_and_then (instr_at f) o) ≡ Some v
    on None d = absurd (empty (points_where (is_call_of Intrinsic.CoroBegin) f)
        (where_complete (is_call_of Intrinsic.CoroBegin) f p i e is) d)
      where
        empty : (ps : List Point) → has_point ps p ≡ true → slice_get ps 0 ≡ None → ⊥
        empty [] h z = absurd (cc)
        empty (q ∷ ps) h z = absurd (cc)
    on (Some q) d =
        let x = where_is (is_call_of Intrinsic.CoroBegin) f q d in
        let there : instr_at f q ≡ Some x.0 = instr_there f q.block q.at x.0 x.1 in
        let same : p ≡ q = one_begin k f coroutine calls p q i x.0 e there is x.2 in
        ap (λ (o : Option Instr). option_and_then call_result o) (ap (instr_at f) (sym same) ∙ e) ∙ result

-- what is needed and no value is begin's, or a slot's that isn't the ramp's alone
pub data IsAnew (f : Function) (v : ℕ) : Type 0 where
  Begun : begin_name f ≡ Some v → IsAnew f v
  Slot : IsMadeOnce f v → (IsRampSlot f v → ⊥) → IsAnew f v

call_gives : (x : Intrinsic) (i : Instr) (v : ℕ) → is_call_of x i ≡ true → given_by i ≡ Some v → call_result i ≡ Some v
call_gives x (Instr.Call r t ty callee args) v e g = given_result (Instr.Call r t ty callee args) v g
call_gives x _ v e g = absurd (cc)

module _ (m : Module) (k : ℕ) (f : Function) (coroutine : f.coroutine ≡ true) (rules : KeepsFunctionRules m k f)
    (calls : wrong_call k f ≡ None) (kept : KeepsSuspendRules f) (definite : IsDefinite f) (names : HasPlainNames f)
    (frames : AreFramesUnused k f) (v : ℕ) (s : Point) (reached : IsReached f s.block s.at)
    (c : IsCallAt Intrinsic.CoroSuspend f s) (needed : IsNeededBehind f s v) where
  classified : IsRemadeAt f v → IsAnew f v
  classified x = by x.instr x.stands x.remade x.gives
    where
      by_call : (r : Option ℕ) (t : Bool) (ty : Option Ty) (callee : Callee) (args : List Arg)
          → fetch f x.place.block x.place.at ≡ AtInstr (Instr.Call r t ty callee args)
          → given_by (Instr.Call r t ty callee args) ≡ Some v
          → (b : Bool) → is_call_of Intrinsic.CoroBegin (Instr.Call r t ty callee args) ≡ b
          → (b || is_call_of Intrinsic.CoroFrame (Instr.Call r t ty callee args)) ≡ true → IsAnew f v
      by_call r t ty callee args e g true is h = Begun (begin_is m k f coroutine calls x.place
          (Instr.Call r t ty callee args) v (instr_there f x.place.block x.place.at (Instr.Call r t ty callee args) e) is
          (call_gives Intrinsic.CoroBegin (Instr.Call r t ty callee args) v is g))
      by_call r t ty callee args e g false is h = absurd (unread k f v (frames x.place
          (Instr.Call r t ty callee args) v (instr_there f x.place.block x.place.at (Instr.Call r t ty callee args) e) h
          (given_result (Instr.Call r t ty callee args) v g)) (read_behind f v s needed))

      by : (i : Instr) → fetch f x.place.block x.place.at ≡ AtInstr i → remakes i ≡ true → given_by i ≡ Some v
          → IsAnew f v
      by (Instr.Alloca name ty align) e h g =
          let same : name ≡ v = cc in
          let made = made_once m k f rules v ty align x.place.block x.place.at
          (e ∙ ap (λ (n : ℕ). AtInstr (Instr.Alloca n ty align)) same) in
          ⊎_elim (λ ramp. absurd (ramp_unneeded f names v ramp s c needed)) (λ no. Slot made no) (is_ramp_or_not f v made)
      by (Instr.Call r t ty callee args) e h g = by_call r t ty callee args e g
          (is_call_of Intrinsic.CoroBegin (Instr.Call r t ty callee args)) refl h
      by _ e h g = absurd (cc)

  pub other_anew : (IsListed v (values_of f) → ⊥) → IsAnew f v
  other_anew other = classified (other_remade m k f rules v definite kept s reached c needed other)
