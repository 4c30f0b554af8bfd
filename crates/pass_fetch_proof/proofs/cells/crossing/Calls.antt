-- What is put in calls no intrinsic, so the blocks of suspends and the end's are the same.
use Rattle.std.proofs.Common.{◌≡◌, ℕ, zero, suc, ◌+◌, Bool, true, false, List, [], ◌∷◌, ◌++◌, length, refl, ◌∙◌}
use Rattle.std.specs.List.{list_any}
use Rattle.std.specs.Prelude.{Option, Some, None, slice_get, ◌||◌, if◌then◌else◌}
use Rattle.pass_fetch_proof.proofs.cells.rules.Spread.{spread}
use Rattle.pass_edges_proof.proofs.ir_laws.facts.Members.{each_joined}
use Rattle.pass_edges_proof.specs.ir_parts.Contents.{instr_operands, result_of}
use Rattle.pass_edges_proof.specs.pass_distances.Sums.{is_wide, start_instrs, start_value, sum_instrs, way_instrs, widening}
use Rattle.pass_edges_proof.specs.pass_distances.Ways.{ways_of}
use Rattle.pass_edges_proof.specs.pass_distances.declared.way.Way.{Way}
use Rattle.ir_model.specs.Ty.{Ty}
use Rattle.ir_model.specs.declared.instr.Instr.{Instr}
use Rattle.ir_model.specs.declared.instr.Phi.{Phi}
use Rattle.ir_model.specs.declared.module.Module.{Module}
use Rattle.ir_model.specs.declared.module.Param.{Param}
use Rattle.ir_model.specs.declared.operand.Arg.{Arg}
use Rattle.ir_model.specs.declared.operand.Callee.{Callee}
use Rattle.ir_model.specs.declared.operand.Intrinsic.{Intrinsic}
use Rattle.ir_model.specs.declared.operand.Operand.{Operand}
use Rattle.pass_edges_proof.specs.ir_paths.Windows.{is_call_of}
use Rattle.pass_edges_proof.specs.run_laws.changed.Changed.{Each}
use Rattle.pass_edges_proof.specs.pass_fetch.Fetching.{callee_by, fetch_at, fetch_into, fetch_of, fetched_args, fetches_by, fetches_of, fetches_of_all, next_after}
use Rattle.pass_edges_proof.specs.pass_fetch.Instrs.{next_after_instr, with_fetched}
use Rattle.pass_edges_proof.specs.pass_fetch.declared.fetch.Fetch.{Fetch}
use Rattle.pass_edges_proof.specs.pass_cells.Kept.{entry}
use Rattle.pass_edges_proof.specs.pass_cells.Moves.{address_again, after_saved, again_one, again_values, saved_one, saved_values}
use Rattle.pass_edges_proof.specs.pass_cells.Written.{after_one, distance_alloca, distance_allocas, distance_behind, distance_from, distance_into, kept_allocas, link_allocas, save_row, stored, stored_at, stored_one, stored_params, stored_phis, stored_result}
use Rattle.pass_edges_proof.specs.pass_cells.declared.plan.KeptValue.{KeptValue}
use Rattle.pass_edges_proof.specs.pass_cells.declared.plan.Plan.{Plan}

-- an instruction that calls no intrinsic
abbrev pub IsQuiet : Instr → Type 0
IsQuiet j = (i : Intrinsic) → is_call_of i j ≡ false

abbrev pub AreQuiet : List Instr → Type 0
AreQuiet js = Each IsQuiet js

both : (xs ys : List Instr) → AreQuiet xs → AreQuiet ys → AreQuiet (xs ++ ys)
both xs ys h k = each_joined IsQuiet xs ys h k

saved_quiet : (n : ℕ) (o : Option KeptValue) → AreQuiet (saved_one n o)
saved_quiet n None = tt
saved_quiet n (Some x) = (λ i. refl, (λ i. refl, tt))

pub saves_quiet : (kept : List KeptValue) (n : ℕ) (ks : List ℕ) → AreQuiet (saved_values kept n ks)
saves_quiet kept n [] = tt
saves_quiet kept n (k ∷ ks) = both (saved_one n (slice_get kept k)) (saved_values kept (n + 1) ks) (saved_quiet n (slice_get kept k)) (saves_quiet kept (n + 1) ks)

address_quiet : (n cell : ℕ) (o : Option ℕ) → AreQuiet (address_again n cell o)
address_quiet n cell None = tt
address_quiet n cell (Some s) = (λ i. refl, (λ i. refl, tt))

again_quiet : (n : ℕ) (o : Option KeptValue) → AreQuiet (again_one n o)
again_quiet n None = tt
again_quiet n (Some x) = (λ i. refl, (λ i. refl, address_quiet n x.cell x.slot))

pub agains_quiet : (kept : List KeptValue) (n : ℕ) (ks : List ℕ) → AreQuiet (again_values kept n ks)
agains_quiet kept n [] = tt
agains_quiet kept n (k ∷ ks) = both (again_one n (slice_get kept k)) (again_values kept (n + 2) ks) (again_quiet n (slice_get kept k)) (agains_quiet kept (n + 2) ks)

one_quiet : (v : ℕ) (o : Option KeptValue) → AreQuiet (stored_one v o)
one_quiet v None = tt
one_quiet v (Some x) = (λ i. refl, tt)

at_quiet : (kept : List KeptValue) (v : ℕ) (o : Option ℕ) → AreQuiet (stored_at kept v o)
at_quiet kept v None = tt
at_quiet kept v (Some k) = one_quiet v (slice_get kept k)

pub result_quiet : (p : Plan) (o : Option ℕ) → AreQuiet (stored_result p o)
result_quiet p None = tt
result_quiet p (Some v) = at_quiet p.kept v (entry p.places v)

pub phis_quiet : (p : Plan) (ps : List Phi) → AreQuiet (stored_phis p ps)
phis_quiet p [] = tt
phis_quiet p (x ∷ xs) = both (stored p x.result) (stored_phis p xs) (at_quiet p.kept x.result (entry p.places x.result)) (phis_quiet p xs)

params_quiet : (p : Plan) (ps : List Param) → AreQuiet (stored_params p ps)
params_quiet p [] = tt
params_quiet p (x ∷ xs) = both (stored p x.name) (stored_params p xs) (at_quiet p.kept x.name (entry p.places x.name)) (params_quiet p xs)

wide_quiet : (b : Bool) (is : List Instr) → AreQuiet is → AreQuiet (if b then [] else is)
wide_quiet true is h = tt
wide_quiet false is h = h

way_quiet : (n : ℕ) (x : Operand) (way : Way) → AreQuiet (way_instrs n x way)
way_quiet n x (Way.Bytes b) = (λ i. refl, tt)
way_quiet n x (Way.Elements a size) = both (widening n a) (_ ∷ _ ∷ []) (wide_quiet (is_wide a.ty) (_ ∷ []) (λ i. refl, tt)) (λ i. refl, (λ i. refl, tt))

sums_quiet : (n : ℕ) (x : Operand) (ways : List Way) → AreQuiet (sum_instrs n x ways)
sums_quiet n x [] = tt
sums_quiet n x (way ∷ ways) = both (way_instrs n x way) (sum_instrs (n + 3) (Operand.Local (n + 2)) ways) (way_quiet n x way) (sums_quiet (n + 3) (Operand.Local (n + 2)) ways)

start_quiet : (n : ℕ) (from : Option ℕ) → AreQuiet (start_instrs n from)
start_quiet n None = tt
start_quiet n (Some c) = (λ i. refl, tt)

into_quiet : (m : Module) (from : Option ℕ) (n : ℕ) (o : Option ℕ) (ty : Ty) (args : List Arg) → AreQuiet (distance_into m from n o ty args)
into_quiet m from n None ty args = tt
into_quiet m from n (Some c) ty args =
    both (start_instrs n from ++ sum_instrs (n + 1) (start_value n from) (ways_of m ty args)) (_ ∷ [])
    (both (start_instrs n from) (sum_instrs (n + 1) (start_value n from) (ways_of m ty args)) (start_quiet n from) (sums_quiet (n + 1) (start_value n from) (ways_of m ty args)))
    (λ i. refl, tt)

pub behind_quiet : (m : Module) (p : Plan) (n : ℕ) (i : Instr) → AreQuiet (distance_behind m p n i)
behind_quiet m p n (Instr.Gep r inbounds ty base args) = into_quiet m (distance_from p r) n (entry p.cells r) ty args
behind_quiet m p n _ = tt

fetch_quiet : (n : ℕ) (x : Fetch) → AreQuiet (fetch_into n x ∷ [])
fetch_quiet n (Fetch.Load ty cell) = (λ i. refl, tt)
fetch_quiet n (Fetch.Address base distance) = (λ i. refl, tt)

by_quiet : (n : ℕ) (o : Option Fetch) → AreQuiet (fetches_by n o)
by_quiet n None = tt
by_quiet n (Some x) = fetch_quiet n x

pub fetches_quiet : (t : List (Option Fetch)) (n : ℕ) (xs : List Operand) → AreQuiet (fetches_of_all t n xs)
fetches_quiet t n [] = tt
fetches_quiet t n (x ∷ xs) = both (fetches_of t n x) (fetches_of_all t (next_after t n x) xs) (by_quiet n (fetch_of t x)) (fetches_quiet t (next_after t n x) xs)

distance_alloca_quiet : (c : ℕ) (t : Ty) (o : Option ℕ) → AreQuiet (distance_alloca c t o)
distance_alloca_quiet c t None = tt
distance_alloca_quiet c t (Some s) = (λ i. refl, tt)

kept_quiet : (xs : List KeptValue) → AreQuiet (kept_allocas xs)
kept_quiet [] = tt
kept_quiet (x ∷ xs) = (λ i. refl, (λ i. refl, both (distance_allocas x) (kept_allocas xs) (distance_alloca_quiet x.field_cell x.field_ty x.slot) (kept_quiet xs)))

links_quiet : (first count links : ℕ) → AreQuiet (link_allocas first count links)
links_quiet first count zero = tt
links_quiet first count (suc i) = both (link_allocas first count i) (_ ∷ []) (links_quiet first count i) (λ j. refl, tt)

-- the front of the entry block
pub front_quiet : (p : Plan) (ps : List Param) → AreQuiet ((kept_allocas p.kept ++ link_allocas p.first (length p.kept) p.links) ++ stored_params p ps)
front_quiet p ps = both (kept_allocas p.kept ++ link_allocas p.first (length p.kept) p.links) (stored_params p ps) (both (kept_allocas p.kept) (link_allocas p.first (length p.kept) p.links) (kept_quiet p.kept) (links_quiet p.first (length p.kept) p.links)) (params_quiet p ps)

-- ---- an intrinsic is called in a list where it was

quiet_none : (i : Intrinsic) (xs : List Instr) → AreQuiet xs → list_any (is_call_of i) xs ≡ false
quiet_none i [] h = refl
quiet_none i (x ∷ xs) h = (λ k. h.0 i k || list_any (is_call_of i) xs) ∙ quiet_none i xs h.1

pub quiet_ahead : (i : Intrinsic) (xs ys : List Instr) → AreQuiet xs → list_any (is_call_of i) (xs ++ ys) ≡ list_any (is_call_of i) ys
quiet_ahead i [] ys h = refl
quiet_ahead i (x ∷ xs) ys h = (λ k. h.0 i k || list_any (is_call_of i) (xs ++ ys)) ∙ quiet_ahead i xs ys h.1

pub same_call : (t : List (Option Fetch)) (n : ℕ) (i : Intrinsic) (x : Instr)
    → is_call_of i (with_fetched t n x) ≡ is_call_of i x
same_call t n i (Instr.Binary r op flags ty a b) = refl
same_call t n i (Instr.Icmp r pred ty a b) = refl
same_call t n i (Instr.Select r c a b) = refl
same_call t n i (Instr.Cast r op nneg a to) = refl
same_call t n i (Instr.Alloca r ty align) = refl
same_call t n i (Instr.Load r ty y align) = refl
same_call t n i (Instr.Store a y align) = refl
same_call t n i (Instr.Gep r inbounds ty y args) = refl
same_call t n i (Instr.Call r must_tail ty (Callee.Named c) args) = refl
same_call t n i (Instr.Call r must_tail ty (Callee.Allocator c) args) = refl
same_call t n i (Instr.Call r must_tail ty (Callee.Intrinsic c) args) = refl
same_call t n i (Instr.Call r must_tail ty (Callee.Local v) args) = on (fetch_at (slice_get t v))
  where
    on : (o : Option Fetch) → is_call_of i (Instr.Call r must_tail ty (callee_by n o (Callee.Local v)) (fetched_args t (next_after t n (Operand.Local v)) args)) ≡ false
    on None = refl
    on (Some x) = refl

pub spread_calls : (m : Module) (p : Plan) (t : List (Option Fetch)) (i : Intrinsic) (k n : ℕ) (is rest : List Instr) → AreQuiet rest → list_any (is_call_of i) (spread m p t k n is rest) ≡ list_any (is_call_of i) is
spread_calls m p t i k n [] rest h = quiet_none i rest h
spread_calls m p t i k n (x ∷ xs) rest h =
    let j : Instr = with_fetched t n x in
    let a : List Instr = fetches_of_all t n (instr_operands x) in
    let b : List Instr = saved_values p.kept k (save_row p j) in
    let c : List Instr = stored_result p (result_of j) in
    let k1 : ℕ = after_saved k (save_row p j) in
    let d : List Instr = distance_behind m p k1 j in
    let more : List Instr = spread m p t (after_one m p k j) (next_after_instr t n x) xs rest in
    quiet_ahead i a (b ++ (j ∷ (c ++ (d ++ more)))) (fetches_quiet t n (instr_operands x))
    ∙ quiet_ahead i b (j ∷ (c ++ (d ++ more))) (saves_quiet p.kept k (save_row p j))
    ∙ (λ e. same_call t n i x e || (quiet_ahead i c (d ++ more) (result_quiet p (result_of j)) ∙ quiet_ahead i d more (behind_quiet m p k1 j) ∙ spread_calls m p t i (after_one m p k j) (next_after_instr t n x) xs rest h) e)
