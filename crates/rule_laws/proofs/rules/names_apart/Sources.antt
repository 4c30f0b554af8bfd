-- No name of a source that breaks no rule begins with `$c.`: what stands in a function is defined in it (N2), and no name that is defined begins so (N3).
use Rattle.std.proofs.Common.{◌≡◌, ℕ, ◌+◌, Bool, true, false, List, [], ◌∷◌, ◌++◌, length, refl, sym, ap, ◌∙◌, subst}
use Rattle.std.specs.List.{list_all}
use Rattle.std.specs.Prelude.{None, Option, Some, codes, map, not, slice_get, ◌==◌, ◌&&◌, ◌||◌, if◌then◌else◌}
use Rattle.std.proofs.lemmas.Bool.{and_parts, eqb-true}
use Rattle.std.proofs.lemmas.Option.{slice_get_within}
use Rattle.ir_laws.specs.ir_base.declared.name.Name.{Name}
use Rattle.ir_laws.specs.ir_base.declared.outcome.Place.{Place}
use Rattle.ir_laws.specs.ir_base.declared.rule.Rule.{Rule}
use Rattle.rule_uses.specs.Undefined.{params_of}
use Rattle.rule_laws.proofs.rules.renamed.Outside.{each_left, each_right}
use Rattle.rule_laws.proofs.rules.local_rules.Accepted.{accepted_breaks_none, both_refused}
use Rattle.rule_laws.proofs.rules.local_rules.Carried.{Passing, passing}
use Rattle.rule_laws.proofs.rules.source_rules.Locals.{block_names, made_by, name_of, names_are}
use Rattle.ir_laws.proofs.facts.Lists.{phi_names, row_of}
use Rattle.rule_laws.proofs.rules.plain_rules.Places.{both_later}
use Rattle.rule_laws.proofs.rules.local_rules.Rules.{second_out as second_place_out}
use Rattle.rule_laws.proofs.rules.plain_rules.Sentences.{kept_by_functions}
use Rattle.ir_parts.specs.Contents.{arg_operands, callee_operands, ending_labels, ending_operands, instr_operands, part_labels, part_operands, part_types}
use Rattle.ir_parts.specs.Locals.{locals_of}
use Rattle.ir_parts.specs.Parts.{Ending, Part, block_parts, blocks_parts, function_place, instr_parts, instr_place, parts_of, phi_parts, place_if}
use Rattle.ir_parts.specs.declared.defined.Definition.{Definition}
use Rattle.rule_all.specs.Order.{items_refusal, refusal}
use Rattle.rule_all.specs.Refused.{IsRefused}
use Rattle.text_grammar.specs.Text.{StandsFor}
use Rattle.ir_laws.specs.ir_model.declared.instr.Case.{Case}
use Rattle.ir_laws.specs.ir_model.declared.instr.Incoming.{Incoming}
use Rattle.ir_laws.specs.ir_model.declared.instr.Instr.{Instr}
use Rattle.ir_laws.specs.ir_model.declared.instr.Phi.{Phi}
use Rattle.ir_laws.specs.ir_model.declared.instr.Terminator.{Terminator}
use Rattle.ir_laws.specs.ir_model.declared.module.Block.{Block}
use Rattle.ir_laws.specs.ir_model.declared.module.Function.{Function}
use Rattle.ir_laws.specs.ir_model.declared.module.Module.{Module}
use Rattle.ir_laws.specs.ir_model.declared.module.Param.{Param}
use Rattle.ir_laws.specs.ir_model.declared.operand.Arg.{Arg}
use Rattle.ir_laws.specs.ir_model.declared.operand.Callee.{Callee}
use Rattle.ir_laws.specs.ir_model.declared.operand.Operand.{Operand}
use Rattle.rule_modules.specs.Order.{module_refusal, or_refusal}
use Rattle.rule_modules.specs.declared.order.Refusal.{Refusal}
use Rattle.rule_names.specs.Definitions.{second_definitions}
use Rattle.rule_names.specs.Items.{first_place}
use Rattle.rule_names.specs.Known.{first_unknown, is_defined, is_kind, is_label, is_value, knows_called, knows_operand, knows_type, names_unknown, unknown_names}
use Rattle.rule_names.specs.Reserved.{first_own, is_own, is_reserved, is_taken, name_begins, own_local, reserved_names}
use Rattle.rule_names.specs.Stage.{is_source}
use Rattle.rule_names.specs.declared.stage.Stage.{Stage}
use Rattle.ir_laws.specs.run_laws.changed.Changed.{Each}
use Rattle.rule_types.specs.Limits.{limits}
use Rattle.rule_types.specs.Signatures.{other_types}
use Rattle.ir_laws.proofs.facts.Members.{at_each, apart_from}
use Rattle.rule_laws.proofs.texts.names_apart.Texts.{Holds, IsNamedByText, OfArg, OfBlock, OfCallee, OfCase, OfFunction, OfIncoming, OfInstruction, OfOperand, OfParam, OfPhi, OfTerminator, named_by_text}
use Rattle.rule_laws.specs.rules.names_apart.Words.{IsTableOf}

-- ---- the rules

reserved_none : (m : Module) → IsRefused Stage.Source m None → first_place (reserved_names Stage.Source m) m ≡ None
unfolding refusal
reserved_none m h =
    let both = both_later (module_refusal Stage.Source m) (items_refusal Stage.Source m h.faults) (sym h.is) in
    let types : Option Refusal = or_refusal Rule.Y2 (first_place (other_types m) m) None in
    let reserved : Option Refusal = or_refusal Rule.N3 (first_place (reserved_names Stage.Source m) m) types in
    let known : Option Refusal = or_refusal Rule.N2 (first_place (unknown_names m) m) reserved in
    let definitions : Option Refusal = or_refusal Rule.N1 (first_place (second_definitions m) m) known in
    let a = both_refused Rule.L1 (first_place (limits Stage.Source m) m) definitions both.0 in
    let b = both_refused Rule.N1 (first_place (second_definitions m) m) known a.1 in
    let c = both_refused Rule.N2 (first_place (unknown_names m) m) reserved b.1 in
    (both_refused Rule.N3 (first_place (reserved_names Stage.Source m) m) types c.1).0

no_own : (m : Module) → IsRefused Stage.Source m None → (k : ℕ) (f : Function) → slice_get m.functions k ≡ Some f → first_own f.names (locals_of k f) ≡ None
no_own m h k f there =
    second_place_out (place_if (is_reserved f.name || (is_source Stage.Source && is_taken m f)) (function_place k)) (own_local Stage.Source k f)
    (kept_by_functions (reserved_names Stage.Source m) m (reserved_none m h) k f there)

known : (m : Module) → IsRefused Stage.Source m None → (k : ℕ) (f : Function) → slice_get m.functions k ≡ Some f → first_unknown m k f ≡ None
known m h k f there = kept_by_functions (unknown_names m) m (accepted_breaks_none m h).known k f there

-- ---- one function

-- the name at a position doesn't begin with `$c.`
abbrev is_free : List Name → ℕ → Bool
is_free names k = not (is_own (slice_get names k))

defined_free : (names : List Name) (ds : List Definition) → first_own names ds ≡ None → Each (Holds (is_free names)) (map name_of ds)
defined_free names [] e = tt
defined_free names (d ∷ ds) e = on (is_own (slice_get names d.name)) refl e (defined_free names ds)
  where
    on : (b : Bool) → is_own (slice_get names d.name) ≡ b → (if b then Some d.place else first_own names ds) ≡ None → (first_own names ds ≡ None → Each (Holds (is_free names)) (map name_of ds)) → Each (Holds (is_free names)) (d.name ∷ map name_of ds)
    on true is k rest = absurd (cc)
    on false is k rest = (ap not is, rest k)

module _ (m : Module) (k : ℕ) (f : Function) (t : ℕ → Bool) (defined : Each (Holds t) (map name_of (locals_of k f))) where
  -- what is defined holds
  one_defined : (label : Bool) (ds : List Definition) (n : ℕ) → Each (Holds t) (map name_of ds) → is_defined label ds n ≡ true → Holds t n
  one_defined label [] n h e = absurd (cc)
  one_defined label (d ∷ ds) n h e = on (is_kind label d && (d.name == n)) refl e (one_defined label ds n h.1)
    where
      on : (b : Bool) → (is_kind label d && (d.name == n)) ≡ b → (b || is_defined label ds n) ≡ true → (is_defined label ds n ≡ true → Holds t n) → Holds t n
      on true is g rest = subst (Holds t) (eqb-true d.name n (and_parts (is_kind label d) (d.name == n) is).1) h.0
      on false is g rest = rest g

  value_holds : (n : ℕ) → is_value k f n ≡ true → Holds t n
  value_holds n e = one_defined false (locals_of k f) n defined e

  label_holds : (n : ℕ) → is_label k f n ≡ true → Holds t n
  label_holds n e = one_defined true (locals_of k f) n defined e

  -- ---- operands

  abbrev knows : Operand → Bool
  knows = knows_operand m (is_value k f)

  operand_holds : (x : Operand) → knows x ≡ true → OfOperand t x
  operand_holds (Operand.Local v) e = value_holds v e
  operand_holds (Operand.Global n) e = tt
  operand_holds (Operand.Number z) e = tt
  operand_holds Operand.True e = tt
  operand_holds Operand.False e = tt
  operand_holds Operand.Null e = tt
  operand_holds Operand.None e = tt
  operand_holds Operand.Poison e = tt

  operands_hold : (xs : List Operand) → list_all knows xs ≡ true → Each (OfOperand t) xs
  operands_hold [] e = tt
  operands_hold (x ∷ xs) e = let both = and_parts (knows x) (list_all knows xs) e in (operand_holds x both.0, operands_hold xs both.1)

  args_hold : (args : List Arg) → Each (OfOperand t) (arg_operands args) → Each (OfArg t) args
  args_hold [] h = tt
  args_hold (a ∷ args) h = (h.0, args_hold args h.1)

  labels_hold : (ns : List ℕ) → list_all (is_label k f) ns ≡ true → Each (Holds t) ns
  labels_hold [] e = tt
  labels_hold (n ∷ ns) e = let both = and_parts (is_label k f n) (list_all (is_label k f) ns) e in (label_holds n both.0, labels_hold ns both.1)

  -- ---- parts

  -- a part's operands and labels are known
  abbrev IsKnown : Part → Type 0
  IsKnown x = Each (OfOperand t) (part_operands x) × Each (Holds t) (part_labels x)

  abbrev breaks : Place → Part → Bool
  breaks = names_unknown m (is_value k f) (is_label k f)

  un_not : (b : Bool) → not b ≡ false → b ≡ true
  un_not true e = refl
  un_not false e = absurd (cc)

  part_known : (p : Place) (x : Part) → breaks p x ≡ false → IsKnown x
  part_known p x e =
      let all = un_not (list_all (knows_type m) (part_types x) && (list_all knows (part_operands x) && (list_all (is_label k f) (part_labels x) && knows_called m x))) e in
      let later = and_parts (list_all (knows_type m) (part_types x)) (list_all knows (part_operands x) && (list_all (is_label k f) (part_labels x) && knows_called m x)) all in
      let both = and_parts (list_all knows (part_operands x)) (list_all (is_label k f) (part_labels x) && knows_called m x) later.1 in
      let last = and_parts (list_all (is_label k f) (part_labels x)) (knows_called m x) both.1 in
      (operands_hold (part_operands x) both.0, labels_hold (part_labels x) last.0)

  callee_holds : (c : Callee) → Each (OfOperand t) (callee_operands c) → OfCallee t c
  callee_holds (Callee.Local v) h = h.0
  callee_holds (Callee.Named n) h = tt
  callee_holds (Callee.Allocator a) h = tt
  callee_holds (Callee.Intrinsic i) h = tt

  call_holds : (c : Callee) (args : List Arg) → Each (OfOperand t) (callee_operands c ++ arg_operands args) → OfCallee t c × Each (OfArg t) args
  call_holds c args h =
      (callee_holds c (each_left (OfOperand t) (callee_operands c) (arg_operands args) h), args_hold args (each_right (OfOperand t) (callee_operands c) (arg_operands args) h))

  instr_holds : (i : Instr) → Each (Holds t) (made_by i) → Each (OfOperand t) (instr_operands i) → OfInstruction t i
  instr_holds (Instr.Binary r op g ty a b) h o = (h.0, (o.0, o.1.0))
  instr_holds (Instr.Icmp r p ty a b) h o = (h.0, (o.0, o.1.0))
  instr_holds (Instr.Select r c a b) h o = (h.0, (o.0, (o.1.0, o.1.1.0)))
  instr_holds (Instr.Cast r op nneg a ty) h o = (h.0, o.0)
  instr_holds (Instr.Alloca r ty n) h o = h.0
  instr_holds (Instr.Load r ty p n) h o = (h.0, o.0)
  instr_holds (Instr.Store a p n) h o = (o.0, o.1.0)
  instr_holds (Instr.Gep r inbounds ty p is) h o = (h.0, (o.0, args_hold is o.1))
  instr_holds (Instr.Call (Some r) must ty c args) h o = (h.0, call_holds c args o)
  instr_holds (Instr.Call None must ty c args) h o = call_holds c args o

  incoming_hold : (is : List Incoming) → Each (OfOperand t) (map (λ i. i.value) is) → Each (Holds t) (map (λ i. i.from) is) → Each (OfIncoming t) is
  incoming_hold [] h o = tt
  incoming_hold (i ∷ is) h o = ((h.0, o.0), incoming_hold is h.1 o.1)

  cases_hold : (cs : List Case) → Each (OfOperand t) (map (λ c. c.arg.value) cs) → Each (Holds t) (map (λ c. c.target) cs) → Each (OfCase t) cs
  cases_hold [] h o = tt
  cases_hold (c ∷ cs) h o = ((h.0, o.0), cases_hold cs h.1 o.1)

  term_holds : (x : Terminator) → Each (OfOperand t) (ending_operands x) → Each (Holds t) (ending_labels x) → OfTerminator t x
  term_holds (Terminator.Jump l) h o = o.0
  term_holds (Terminator.Branch c a b) h o = (h.0, (o.0, o.1.0))
  term_holds (Terminator.Switch a l cs) h o = (h.0, (o.0, cases_hold cs h.1 o.1))
  term_holds (Terminator.Ret None) h o = tt
  term_holds (Terminator.Ret (Some a)) h o = h.0
  term_holds Terminator.Unreachable h o = tt

  -- ---- blocks

  abbrev AreKnown : List (Place × Part) → Type 0
  AreKnown xs = Each (λ x. IsKnown x.1) xs

  all_known : (xs : List (Place × Part)) → Passing breaks xs → AreKnown xs
  all_known [] h = tt
  all_known (x ∷ xs) h = (part_known x.0 x.1 h.0, all_known xs h.1)

  phis_hold : (block at : ℕ) (ps : List Phi) → AreKnown (phi_parts k block at ps) → Each (Holds t) (phi_names ps) → Each (OfPhi t) ps
  phis_hold block at [] h d = tt
  phis_hold block at (p ∷ ps) h d = ((d.0, incoming_hold p.incoming h.0.0 h.0.1), phis_hold block (at + 1) ps h.1 d.1)

  instrs_hold : (block at : ℕ) (is : List Instr) → AreKnown (instr_parts k block at is) → Each (Holds t) (row_of made_by is) → Each (OfInstruction t) is
  instrs_hold block at [] h d = tt
  instrs_hold block at (i ∷ is) h d =
      (instr_holds i (each_left (Holds t) (made_by i) (row_of made_by is) d) h.0.0, instrs_hold block (at + 1) is h.1 (each_right (Holds t) (made_by i) (row_of made_by is) d))

  block_holds : (block : ℕ) (b : Block) → AreKnown (block_parts k block b) → Each (Holds t) (block_names b) → OfBlock t b
  unfolding block_parts
  block_holds block b h d =
      let phis : List (Place × Part) = phi_parts k block 0 b.phis in
      let instrs : List (Place × Part) = instr_parts k block (length b.phis) b.instrs in
      let last : List (Place × Part) = (instr_place k block (length b.phis + length b.instrs), Ending b.term) ∷ [] in
      let behind : AreKnown (instrs ++ last) = each_right (λ x. IsKnown x.1) phis (instrs ++ last) h.1 in
      let end : AreKnown last = each_right (λ x. IsKnown x.1) instrs last behind in (
        d.0,
        (
          phis_hold block 0 b.phis (each_left (λ x. IsKnown x.1) phis (instrs ++ last) h.1) (each_left (Holds t) (phi_names b.phis) (row_of made_by b.instrs) d.1),
          (
            instrs_hold block (length b.phis) b.instrs (each_left (λ x. IsKnown x.1) instrs last behind) (each_right (Holds t) (phi_names b.phis) (row_of made_by b.instrs) d.1),
            term_holds b.term end.0.0 end.0.1,
          ),
        ),
      )

  blocks_hold : (at : ℕ) (bs : List Block) → AreKnown (blocks_parts k at bs) → Each (Holds t) (row_of block_names bs) → Each (OfBlock t) bs
  blocks_hold at [] h d = tt
  blocks_hold at (b ∷ bs) h d = (
    block_holds at b (each_left (λ x. IsKnown x.1) (block_parts k at b) (blocks_parts k (at + 1) bs) h) (each_left (Holds t) (block_names b) (row_of block_names bs) d),
    blocks_hold (at + 1) bs (each_right (λ x. IsKnown x.1) (block_parts k at b) (blocks_parts k (at + 1) bs) h) (each_right (Holds t) (block_names b) (row_of block_names bs) d),
  )

  params_hold : (ps : List Param) → Each (Holds t) (map (λ p. p.name) ps) → Each (OfParam t) ps
  params_hold [] d = tt
  params_hold (p ∷ ps) d = (d.0, params_hold ps d.1)

  pub function_holds : first_unknown m k f ≡ None → OfFunction t f
  function_holds e =
      let names : Each (Holds t) (params_of f ++ row_of block_names f.blocks) = subst (Each (Holds t)) (names_are k f) defined in (
        params_hold f.params (each_left (Holds t) (params_of f) (row_of block_names f.blocks) names),
        blocks_hold 0 f.blocks (all_known (blocks_parts k 0 f.blocks) (passing breaks (parts_of k f) e).1) (each_right (Holds t) (params_of f) (row_of block_names f.blocks) names),
      )

-- ---- a module

own_name : (names : List Name) (i : ℕ) (n : Name) → slice_get names i ≡ Some n → is_free names i ≡ true → name_begins (codes "$c.") n ≡ true → ⊥
own_name names i n there free own =
    let other : not (name_begins (codes "$c.") n) ≡ true = sym (ap (λ (o : Option Name). not (is_own o)) there) ∙ free in
    let last : false ≡ true = sym (ap not own) ∙ other in
    absurd (cc)

pub source_tables : (text : List ℕ) (m : Module) → StandsFor text m → IsRefused Stage.Source m None → (k : ℕ) (f : Function) → slice_get m.functions k ≡ Some f → IsTableOf [] f.names
source_tables text m stands accepted k f there =
    let named = at_each IsNamedByText m.functions k f (named_by_text text m stands) there in
    let free = named.all (is_free f.names) (function_holds m k f (is_free f.names) (defined_free f.names (locals_of k f) (no_own m accepted k f there)) (known m accepted k f there)) in
    record {
      apart = apart_from f.names named.different;
      words = λ i n e own. absurd (own_name f.names i n e (free i (slice_get_within f.names i n e)) own);
    }
