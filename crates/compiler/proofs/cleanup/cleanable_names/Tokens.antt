-- No operand is a token where of the coro intrinsics coro.id alone is called.
use Rattle.std.proofs.Common.{◌≡◌, inl, inr, ℕ, zero, suc, ◌+◌, Bool, true, false, List, [], ◌∷◌, ◌++◌, length, refl, sym, ap, ◌∙◌, subst, arith, eqb-true}
use Rattle.std.specs.List.{list_all, list_any}
use Rattle.std.specs.Prelude.{None, Option, Some, map, not, slice_get, ◌&&◌, ◌||◌, if◌then◌else◌}
use Rattle.compiler.specs.cleanup.rules.Clean.{NamesNothingGone, calls_left, goes, goes_with, is_left, names_gone}
use Rattle.ir_base.specs.declared.outcome.Place.{Place}
use Rattle.pass_cleanup.specs.Cleanup.{is_kept_callee, is_kept_instr}
use Rattle.pass_cleanup.specs.Free.{calls_id_alone, is_free}
use Rattle.pass_proofs.specs.rule_uses.Uses.{locals_in}
use Rattle.pass_proofs.proofs.ir_laws.facts.Truth.{itself, and_both, and_first, and_second, holds, first_no, second_no}
use Rattle.pass_proofs.proofs.rule_laws.rules.local_rules.Carried.{Passing, none_of, passing}
use Rattle.pass_proofs.proofs.ir_laws.facts.Members.{each_joined}
use Rattle.pass_proofs.proofs.rule_laws.rules.local_rules.Fitting.{either, no_either}
use Rattle.pass_proofs.proofs.rule_laws.rules.local_rules.Names.{numbers}
use Rattle.pass_proofs.proofs.rule_laws.rules.local_rules.Woven.{apart_names}
use Rattle.pass_proofs.proofs.ir_laws.paths.source_rules.Locals.{Apart}
use Rattle.pass_proofs.proofs.rule_laws.rules.source_rules.Locals.{names_are}
use Rattle.pass_proofs.specs.flow_solver.Paths.{IsListed}
use Rattle.pass_proofs.specs.ir_parts.Contents.{arg_operands, instr_operands, part_operands}
use Rattle.pass_proofs.specs.ir_parts.Locals.{locals_of}
use Rattle.pass_proofs.specs.ir_parts.Parts.{Ending, Head, OfInstr, OfPhi, Part, Signature, block_parts, blocks_parts, first_part, instr_parts, instr_place, parts_of, phi_parts}
use Rattle.ir_model.specs.Ty.{Ty, token}
use Rattle.ir_model.specs.declared.instr.Incoming.{Incoming}
use Rattle.ir_model.specs.declared.instr.Instr.{Instr}
use Rattle.ir_model.specs.declared.instr.Phi.{Phi}
use Rattle.ir_model.specs.declared.module.Block.{Block}
use Rattle.ir_model.specs.declared.module.Function.{Function}
use Rattle.ir_model.specs.declared.module.Module.{Module}
use Rattle.ir_model.specs.declared.operand.Arg.{Arg}
use Rattle.ir_model.specs.declared.operand.Callee.{Callee}
use Rattle.ir_model.specs.declared.operand.Intrinsic.{Intrinsic}
use Rattle.ir_model.specs.declared.operand.Operand.{Operand}
use Rattle.pass_proofs.specs.rule_locals.Instrs.{on_instr}
use Rattle.pass_proofs.proofs.rule_laws.rules.uses.Plain.{FitsScalar, args_pass, ending_scalar, is_no_token, is_plain_kind, operands_scalar, scalar_local}
use Rattle.pass_proofs.proofs.rule_laws.frames.uses.Plain.{all_wanted_scalar}
use Rattle.pass_proofs.specs.rule_laws.rules.plain_rules.Kept.{KeepsPlainRules}
use Rattle.pass_proofs.specs.run_laws.changed.Changed.{Each}
use Rattle.pass_proofs.specs.rule_types.Signatures.{are_wanted, calls_otherwise, is_result}
use Rattle.pass_proofs.specs.rule_types.Wants.{intrinsic_params, intrinsic_result}
use Rattle.pass_proofs.specs.rule_types.declared.wants.Basic.{Basic}
use Rattle.pass_proofs.specs.rule_types.declared.wants.Wanted.{Wanted}
use Rattle.compiler.proofs.cleanup.unnamed_intrinsics.Early.{calls_free, operands_free}
use Rattle.compiler.specs.cleanup.unnamed_intrinsics.Unnamed.{NamesNoIntrinsic, is_no_intrinsic, names_intrinsic}
use Rattle.pass_proofs.specs.rule_values.Fits.{is_scalar}
use Rattle.pass_proofs.specs.rule_values.Instrs.{fits_instr}
use Rattle.pass_proofs.specs.rule_values.Kinds.{instr_kind, kind_if, value_kind}
use Rattle.pass_proofs.specs.rule_values.Values.{breaks_values, fits_ending, fits_phi, takes}
use Rattle.pass_proofs.specs.rule_values.declared.kinds.Kind.{Kind}
use Rattle.pass_proofs.proofs.rule_laws.rules.woven_rules.Once.{AreOnce, apart_once}
use Rattle.pass_proofs.proofs.rule_laws.rules.woven_rules.Told.{value_told}
use Rattle.pass_proofs.proofs.rule_laws.rules.woven_rules.Unbroken.{Passes, PassesIn, all_pass}

-- ---- of the coro intrinsics coro.id alone is called

abbrev is_lonely : Instr → Bool
is_lonely i = not (is_kept_instr i) || is_free i

abbrev is_other : Place → Instr → Bool
is_other p i = not (is_lonely i)

instrs_lonely : (k block at : ℕ) (is : List Instr) → list_all is_lonely is ≡ true → Passing (on_instr is_other) (instr_parts k block at is)
instrs_lonely k block at [] e = tt
instrs_lonely k block at (i ∷ is) e = (ap not (and_first (is_lonely i) (list_all is_lonely is) e), instrs_lonely k block (at + 1) is (and_second (is_lonely i) (list_all is_lonely is) e))

phis_lonely : (k block at : ℕ) (ps : List Phi) → Passing (on_instr is_other) (phi_parts k block at ps)
phis_lonely k block at [] = tt
phis_lonely k block at (p ∷ ps) = (refl, phis_lonely k block (at + 1) ps)

block_lonely : (k block : ℕ) (b : Block) → list_all is_lonely b.instrs ≡ true → Passing (on_instr is_other) (block_parts k block b)
unfolding block_parts
block_lonely k block b e =
    let P : Place × Part → Type 0 = λ x. on_instr is_other x.0 x.1 ≡ false in
    let last : List (Place × Part) = (instr_place k block (length b.phis + length b.instrs), Ending b.term) ∷ [] in (
      refl,
      each_joined P (phi_parts k block 0 b.phis) (instr_parts k block (length b.phis) b.instrs ++ last) (phis_lonely k block 0 b.phis)
          (each_joined P (instr_parts k block (length b.phis) b.instrs) last (instrs_lonely k block (length b.phis) b.instrs e) (refl, tt)),
    )

blocks_lonely : (k block : ℕ) (bs : List Block) → list_all (λ b. list_all is_lonely b.instrs) bs ≡ true → Passing (on_instr is_other) (blocks_parts k block bs)
blocks_lonely k block [] e = tt
blocks_lonely k block (b ∷ bs) e =
    let rest : Bool = list_all (λ c. list_all is_lonely c.instrs) bs in
    each_joined (λ x. on_instr is_other x.0 x.1 ≡ false) (block_parts k block b) (blocks_parts k (block + 1) bs)
    (block_lonely k block b (and_first (list_all is_lonely b.instrs) rest e)) (blocks_lonely k (block + 1) bs (and_second (list_all is_lonely b.instrs) rest e))

one_of : (fs : List Function) (k : ℕ) (f : Function) → slice_get fs k ≡ Some f → list_all (λ f. list_all (λ b. list_all is_lonely b.instrs) f.blocks) fs ≡ true → list_all (λ b. list_all is_lonely b.instrs) f.blocks ≡ true
one_of [] k f there e = absurd (cc)
one_of (g ∷ fs) zero f there e =
    let same : g ≡ f = cc in
    subst (λ (x : Function). list_all (λ b. list_all is_lonely b.instrs) x.blocks ≡ true) same (and_first (list_all (λ b. list_all is_lonely b.instrs) g.blocks) (list_all (λ f. list_all (λ b. list_all is_lonely b.instrs) f.blocks) fs) e)
one_of (g ∷ fs) (suc k) f there e = one_of fs k f there (and_second (list_all (λ b. list_all is_lonely b.instrs) g.blocks) (list_all (λ f. list_all (λ b. list_all is_lonely b.instrs) f.blocks) fs) e)

-- ---- tables without tokens

tokenless : (x : Intrinsic) → (not (is_kept_instr (Instr.Call None false None (Callee.Intrinsic x) [])) || is_kept_callee (Callee.Intrinsic x)) ≡ true → list_all (λ (w : Wanted). is_no_token w.ty) (intrinsic_params x) ≡ true
tokenless Intrinsic.CoroId e = refl
tokenless Intrinsic.LifetimeStart e = refl
tokenless Intrinsic.LifetimeEnd e = refl
tokenless Intrinsic.MemcpyI64 e = refl
tokenless Intrinsic.MemcpyI32 e = refl
tokenless _ e = absurd (cc)

same_kept : (x : Intrinsic) (r : Option ℕ) (must_tail : Bool) (ty : Option Ty) (args : List Arg) → is_kept_instr (Instr.Call r must_tail ty (Callee.Intrinsic x) args) ≡ is_kept_instr (Instr.Call None false None (Callee.Intrinsic x) [])
same_kept Intrinsic.CoroId r must_tail ty args = refl
same_kept _ r must_tail ty args = refl

-- ---- a value that goes is a token

id_result : (ty : Option Ty) → is_result (Some Basic.Token) ty ≡ true → ty ≡ Some token
id_result None e = absurd (cc)
id_result (Some token) e = refl
id_result (Some _) e = absurd (cc)

token_no_plain : (o : Option Kind) → o ≡ Some Kind.Token → is_plain_kind o ≡ true → ⊥
token_no_plain o same e = let bad : false ≡ true = sym (ap is_plain_kind same) ∙ e in absurd (cc)

module _ (m : Module) (k : ℕ) (f : Function) (keeps : KeepsPlainRules m k f) where
  abbrev K : ℕ → Option Kind
  K = value_kind f

  once : AreOnce (numbers f)
  once = apart_once (numbers f) (subst Apart (names_are k f) (apart_names [] (locals_of k f) keeps.definitions))

  id_kind : (v r : ℕ) (must_tail : Bool) (ty : Option Ty) (args : List Arg) (p : Place) (at : ℕ) (b : Block) → slice_get f.blocks at ≡ Some b → IsListed (Instr.Call (Some r) must_tail ty (Callee.Intrinsic Intrinsic.CoroId) args) b.instrs
      → calls_otherwise m p (OfInstr (Instr.Call (Some r) must_tail ty (Callee.Intrinsic Intrinsic.CoroId) args)) ≡ false → r ≡ v → K v ≡ Some Kind.Token
  id_kind v r must_tail ty args p at b there l e same =
      let i : Instr = Instr.Call (Some r) must_tail ty (Callee.Intrinsic Intrinsic.CoroId) args in
      let params : Bool = are_wanted (intrinsic_params Intrinsic.CoroId) args in
      let is : ty ≡ Some token = id_result ty (and_first (is_result (intrinsic_result Intrinsic.CoroId) ty) params (holds (is_result (intrinsic_result Intrinsic.CoroId) ty && params) e)) in
      value_told v f (once v) at b i there l (ap (λ (n : ℕ). Some n) same)
      ∙ ap (λ (t : Option Ty). instr_kind (Instr.Call (Some r) must_tail t (Callee.Intrinsic Intrinsic.CoroId) args) v) is
      ∙ ap (λ (n : ℕ). kind_if n Kind.Token v) same
      ∙ ap (λ (x : Bool). if x then Some Kind.Token else None) (itself v)

  goes_as : (v : ℕ) (i : Instr) (p : Place) (at : ℕ) (b : Block) → slice_get f.blocks at ≡ Some b → IsListed i b.instrs → calls_otherwise m p (OfInstr i) ≡ false → goes_with v i ≡ true → K v ≡ Some Kind.Token
  goes_as v (Instr.Call (Some r) must_tail ty (Callee.Intrinsic Intrinsic.CoroId) args) p at b there l e g = id_kind v r must_tail ty args p at b there l e (eqb-true r v g)
  goes_as v (Instr.Call None must_tail ty (Callee.Intrinsic Intrinsic.CoroId) args) p at b there l e g = absurd (cc)
  goes_as v _ p at b there l e g = absurd (cc)

  in_instrs : (v at : ℕ) (b : Block) → slice_get f.blocks at ≡ Some b → (is : List Instr) → ((i : Instr) → IsListed i is → IsListed i b.instrs) → Each (λ (i : Instr). Passes (calls_otherwise m) (OfInstr i)) is → list_any (goes_with v) is ≡ true → K v ≡ Some Kind.Token
  in_instrs v at b there [] up h g = absurd (cc)
  in_instrs v at b there (i ∷ is) up h g = on (goes_with v i) refl g (in_instrs v at b there is (λ j l. up j (inr l)) h.1)
    where
      on : (x : Bool) → goes_with v i ≡ x → (x || list_any (goes_with v) is) ≡ true → (list_any (goes_with v) is ≡ true → K v ≡ Some Kind.Token) → K v ≡ Some Kind.Token
      on true here rest later = goes_as v i h.0.0 at b there (up i (inl refl)) h.0.1 here
      on false here rest later = later rest

  in_blocks : (v at : ℕ) (bs : List Block) → ((j : ℕ) (b : Block) → slice_get bs j ≡ Some b → slice_get f.blocks (at + j) ≡ Some b) → Each (PassesIn (calls_otherwise m)) bs → list_any (λ b. list_any (goes_with v) b.instrs) bs ≡ true → K v ≡ Some Kind.Token
  in_blocks v at [] up h g = absurd (cc)
  in_blocks v at (b ∷ bs) up h g = on (list_any (goes_with v) b.instrs) refl g (in_blocks v (at + 1) bs (λ j c there. let next : at + suc j ≡ at + 1 + j = omega arith in subst (λ (n : ℕ). slice_get f.blocks n ≡ Some c) next (up (suc j) c there)) h.1)
    where
      on : (x : Bool) → list_any (goes_with v) b.instrs ≡ x → (x || list_any (λ c. list_any (goes_with v) c.instrs) bs) ≡ true → (list_any (λ c. list_any (goes_with v) c.instrs) bs ≡ true → K v ≡ Some Kind.Token) → K v ≡ Some Kind.Token
      on true here rest later = in_instrs v (at + 0) b (up 0 b refl) b.instrs (λ i l. l) h.0.of_instrs here
      on false here rest later = later rest

  gone_token : (v : ℕ) → goes f v ≡ true → K v ≡ Some Kind.Token
  gone_token v g = in_blocks v 0 f.blocks (λ j b there. let same : j ≡ 0 + j = omega arith in subst (λ (n : ℕ). slice_get f.blocks n ≡ Some b) same there) (all_pass (calls_otherwise m) k f keeps.calls) g

  -- ---- operands that are plain are left

  plain_left : (v : ℕ) → is_plain_kind (K v) ≡ true → not (goes f v) ≡ true
  plain_left v e = on (goes f v) refl
    where
      on : (x : Bool) → goes f v ≡ x → not x ≡ true
      on true g = absurd (token_no_plain (K v) (gone_token v g) e)
      on false g = refl

  operands_left : (xs : List Operand) → ((v : ℕ) → IsListed v (locals_in xs) → is_plain_kind (K v) ≡ true) → list_all is_no_intrinsic xs ≡ true → list_all (is_left f) xs ≡ true
  operands_left [] h e = refl
  operands_left (Operand.Local v ∷ xs) h e = and_both (not (goes f v)) (list_all (is_left f) xs) (plain_left v (h v (inl refl))) (operands_left xs (λ n l. h n (inr l)) e)
  operands_left (Operand.Global n ∷ xs) h e =
      let rest : Bool = list_all is_no_intrinsic xs in
      and_both (is_left f (Operand.Global n)) (list_all (is_left f) xs) (and_first (is_no_intrinsic (Operand.Global n)) rest e) (operands_left xs h (and_second (is_no_intrinsic (Operand.Global n)) rest e))
  operands_left (Operand.Number z ∷ xs) h e = operands_left xs h e
  operands_left (Operand.True ∷ xs) h e = operands_left xs h e
  operands_left (Operand.False ∷ xs) h e = operands_left xs h e
  operands_left (Operand.Null ∷ xs) h e = operands_left xs h e
  operands_left (Operand.None ∷ xs) h e = operands_left xs h e
  operands_left (Operand.Poison ∷ xs) h e = operands_left xs h e

  -- ---- parts

  incoming_scalar : (t : Ty) (is : List Incoming) → is_scalar t ≡ true → list_all (takes K t) is ≡ true → Each (FitsScalar K) (map (λ i. i.value) is)
  incoming_scalar t [] s e = tt
  incoming_scalar t (i ∷ is) s e = ((t, (s, and_first (takes K t i) (list_all (takes K t) is) e)), incoming_scalar t is s (and_second (takes K t i) (list_all (takes K t) is) e))

  call_scalar : (p : Place) (x : Intrinsic) (r : Option ℕ) (must_tail : Bool) (ty : Option Ty) (args : List Arg) → fits_instr m K (Instr.Call r must_tail ty (Callee.Intrinsic x) args) ≡ true → calls_otherwise m p (OfInstr (Instr.Call r must_tail ty (Callee.Intrinsic x) args)) ≡ false
      → is_lonely (Instr.Call r must_tail ty (Callee.Intrinsic x) args) ≡ true → Each (FitsScalar K) (arg_operands args)
  call_scalar p x r must_tail ty args fit e alone =
      all_wanted_scalar K (Callee.Intrinsic x) (intrinsic_params x) args
      (and_second (is_result (intrinsic_result x) ty) (are_wanted (intrinsic_params x) args) (holds (is_result (intrinsic_result x) ty && are_wanted (intrinsic_params x) args) e))
      (tokenless x (ap (λ (b : Bool). not b || is_kept_callee (Callee.Intrinsic x)) (sym (same_kept x r must_tail ty args)) ∙ alone))
      (args_pass K r ty (Callee.Intrinsic x) args fit)

  instr_scalar : (p : Place) (i : Instr) → fits_instr m K i ≡ true → calls_otherwise m p (OfInstr i) ≡ false → is_lonely i ≡ true → Each (FitsScalar K) (instr_operands i)
  instr_scalar p (Instr.Call r must_tail ty (Callee.Intrinsic x) args) fit e alone = call_scalar p x r must_tail ty args fit e alone
  instr_scalar p (Instr.Call r must_tail ty (Callee.Named n) args) fit e alone = operands_scalar K m (Instr.Call r must_tail ty (Callee.Named n) args) refl fit
  instr_scalar p (Instr.Call r must_tail ty (Callee.Allocator a) args) fit e alone = operands_scalar K m (Instr.Call r must_tail ty (Callee.Allocator a) args) refl fit
  instr_scalar p (Instr.Call r must_tail ty (Callee.Local v) args) fit e alone = operands_scalar K m (Instr.Call r must_tail ty (Callee.Local v) args) refl fit
  instr_scalar p i fit e alone = operands_scalar K m i refl fit

  -- what four rules give of a part
  abbrev Fits : Place → Part → Bool
  Fits = either (either (breaks_values m K f.result) (calls_otherwise m)) (either names_intrinsic (on_instr is_other))

  part_left : (p q : Place) (x : Part) → Fits p x ≡ false → names_gone f q x ≡ false
  part_left p q x e =
      let first : Bool = breaks_values m K f.result p x in
      let second : Bool = calls_otherwise m p x in
      let third : Bool = names_intrinsic p x in
      let fourth : Bool = on_instr is_other p x in
      on x (first_no first second (first_no (first || second) (third || fourth) e)) (second_no first second (first_no (first || second) (third || fourth) e))
      (first_no third fourth (second_no (first || second) (third || fourth) e)) (second_no third fourth (second_no (first || second) (third || fourth) e))
    where
      left : (y : Part) → names_intrinsic p y ≡ false → ((v : ℕ) → IsListed v (locals_in (part_operands y)) → is_plain_kind (K v) ≡ true) → names_gone f q y ≡ false
      left y free plain = ap not (and_both (list_all (is_left f) (part_operands y)) (calls_left y) (operands_left (part_operands y) plain (operands_free p y free)) (calls_free p y free))

      on : (y : Part) → breaks_values m K f.result p y ≡ false → calls_otherwise m p y ≡ false → names_intrinsic p y ≡ false → on_instr is_other p y ≡ false → names_gone f q y ≡ false
      on (Signature g) value call free alone = refl
      on (Head b) value call free alone = refl
      on (OfPhi y) value call free alone =
          let fit : fits_phi K y.ty y.incoming ≡ true = holds (fits_phi K y.ty y.incoming) value in
          left (OfPhi y) free (scalar_local K (map (λ i. i.value) y.incoming) (incoming_scalar y.ty y.incoming (and_first (is_scalar y.ty) (list_all (takes K y.ty) y.incoming) fit) (and_second (is_scalar y.ty) (list_all (takes K y.ty) y.incoming) fit)))
      on (OfInstr i) value call free alone = left (OfInstr i) free (scalar_local K (instr_operands i) (instr_scalar p i (holds (fits_instr m K i) value) call (holds (is_lonely i) alone)))
      on (Ending t) value call free alone = left (Ending t) free (ending_scalar K f.result t (holds (fits_ending K f.result t) value))

  all_left : (xs : List (Place × Part)) → Passing Fits xs → Passing (names_gone f) xs
  all_left [] h = tt
  all_left (x ∷ xs) h = (part_left x.0 x.0 x.1 h.0, all_left xs h.1)

pub nothing_gone : (m : Module) (k : ℕ) (f : Function) → slice_get m.functions k ≡ Some f → calls_id_alone m ≡ true → KeepsPlainRules m k f → NamesNoIntrinsic k f → NamesNothingGone k f
nothing_gone m k f there alone keeps free =
    let lonely : first_part (on_instr is_other) (parts_of k f) ≡ None = none_of (on_instr is_other) (parts_of k f) (refl, blocks_lonely k 0 f.blocks (one_of m.functions k f there alone)) in
    let all = no_either (either (breaks_values m (value_kind f) f.result) (calls_otherwise m)) (either names_intrinsic (on_instr is_other)) (parts_of k f)
    (no_either (breaks_values m (value_kind f) f.result) (calls_otherwise m) (parts_of k f) keeps.values keeps.calls)
    (no_either names_intrinsic (on_instr is_other) (parts_of k f) free lonely) in
    none_of (names_gone f) (parts_of k f) (all_left m k f keeps (parts_of k f) (passing (Fits m k f keeps) (parts_of k f) all))
