-- What stays in a module whose coroutines' edges have blocks.
use Rattle.std.proofs.Common.{◌≡◌, ℕ, zero, suc, ◌+◌, Bool, true, false, List, [], ◌∷◌, length, refl, ap, ◌∙◌, arith, length-append}
use Rattle.std.proofs.lemmas.Option.{slice_get-map}
use Rattle.std.specs.List.{list_any}
use Rattle.std.specs.Prelude.{Some, None, Option, map, option_map, slice_get, unwrap_or, if◌then◌else◌, ◌||◌}
use Rattle.pass_early_proof.specs.ir_base.declared.name.Name.{Name}
use Rattle.pass_edges_proof.proofs.edges.paths.Edges.{moved_apart}
use Rattle.pass_edges_proof.proofs.edges.paths.Points.{points_moved}
use Rattle.pass_edges_proof.proofs.edges.paths.Slots.{same_promise, same_ramp_slots}
use Rattle.pass_edges_proof.proofs.edges.paths.Whole.{markers_split}
use Rattle.pass_edges_proof.proofs.edges.paths.Windows.{instr_moved, suspend_moved}
use Rattle.pass_edges_proof.specs.edges.paths.Spots.{moved}
use Rattle.pass_edges.specs.EdgeBlocks.{edge_name, edge_names, with_edge_blocks}
use Rattle.pass_edges.specs.Edges.{edges_of, phi_flags}
use Rattle.pass_edges_proof.specs.edges.states.MovedState.{Keeps, edge_count, edge_function, edges_split, placed, placed_block}
use Rattle.ir_model.specs.Names.{first_where, function_at, function_named, no_function, same_name}
use Rattle.ir_model.specs.Ty.{Ty}
use Rattle.ir_model.specs.declared.module.Function.{Function}
use Rattle.ir_model.specs.declared.module.Module.{Module}
use Rattle.ir_model.specs.declared.operand.Arg.{Arg}
use Rattle.ir_model.specs.declared.operand.Intrinsic.{Intrinsic}
use Rattle.pass_early_proof.specs.ir_paths.Facts.{facts_of}
use Rattle.pass_early_proof.specs.ir_paths.Slots.{has_name, promise_of}
use Rattle.pass_early_proof.specs.ir_paths.Windows.{is_call_of, points_where, suspend_of}
use Rattle.pass_early_proof.specs.ir_paths.declared.point.Point.{Point}
use Rattle.pass_early_proof.specs.run_step.Step.{fits_function, has_markers}
use Rattle.pass_early_proof.specs.run_source_tables.Given.{has_final, is_final, is_final_call}

-- ---- what holds of coroutines and of others

-- what holds where edges have blocks, and where nothing changes
pub by_kind : (P : Function → (ℕ → ℕ) → ℕ → Type 0) (f : Function) → (f.coroutine ≡ true → P (with_edge_blocks f) (λ k. (moved f (record { block = k; at = 0 })).block) (length (edges_of (phi_flags f) f))) → (f.coroutine ≡ false → P f (λ k. k) 0) → P (edge_function f) (placed_block f) (edge_count f)
by_kind P f split plain = on f.coroutine refl
  where
    on : (b : Bool) → f.coroutine ≡ b → P (if b then with_edge_blocks f else f) (λ k. if b then (moved f (record { block = k; at = 0 })).block else k) (if b then length (edges_of (phi_flags f) f) else 0)
    on true e = split e
    on false e = plain e

-- ---- functions

pub function_moved : (m : Module) (func : ℕ) → function_at (edges_split m) func ≡ edge_function (function_at m func)
function_moved m func =
    ap (λ (o : Option Function). unwrap_or o no_function) (slice_get-map edge_function m.functions func) ∙ on (slice_get m.functions func)
  where
    on : (o : Option Function) → unwrap_or (option_map edge_function o) no_function ≡ edge_function (unwrap_or o no_function)
    on None = refl
    on (Some f) = refl

name_stays : (f : Function) → (edge_function f).name ≡ f.name
name_stays f = by_kind (λ g to n. g.name ≡ f.name) f (λ e. refl) (λ e. refl)

result_stays : (f : Function) → (edge_function f).result ≡ f.result
result_stays f = by_kind (λ g to n. g.result ≡ f.result) f (λ e. refl) (λ e. refl)

pub params_stay : (f : Function) → (edge_function f).params ≡ f.params
params_stay f = by_kind (λ g to n. g.params ≡ f.params) f (λ e. refl) (λ e. refl)

pub coroutine_stays : (f : Function) → (edge_function f).coroutine ≡ f.coroutine
coroutine_stays f = by_kind (λ g to n. g.coroutine ≡ f.coroutine) f (λ e. refl) (λ e. refl)

first_named : (n : Name) (fs : List Function) → first_where (λ (f : Function). same_name f.name n) (map edge_function fs) ≡ first_where (λ (f : Function). same_name f.name n) fs
first_named n [] = refl
first_named n (f ∷ fs) =
    ap (λ (x : Name). if same_name x n then Some 0 else option_map suc (first_where (λ (y : Function). same_name y.name n) (map edge_function fs))) (name_stays f)
    ∙ ap (λ (o : Option ℕ). if same_name f.name n then Some 0 else option_map suc o) (first_named n fs)

pub named_moved : (m : Module) (n : Name) → function_named (edges_split m) n ≡ function_named m n
named_moved m n = first_named n m.functions

pub fits_moved : (m : Module) (ty : Option Ty) (args : List Arg) (func : ℕ) → fits_function ty args (slice_get (edges_split m).functions func) ≡ fits_function ty args (slice_get m.functions func)
fits_moved m ty args func = ap (fits_function ty args) (slice_get-map edge_function m.functions func) ∙ on (slice_get m.functions func)
  where
    on : (o : Option Function) → fits_function ty args (option_map edge_function o) ≡ fits_function ty args o
    on None = refl
    on (Some f) = by_kind (λ g to n. fits_function ty args (Some g) ≡ fits_function ty args (Some f)) f (λ e. refl) (λ e. refl)

-- ---- names

pub names_length : (k : ℕ) → length (edge_names k) ≡ k
names_length zero = refl
names_length (suc k) =
    let again = names_length k in
    let len = length-append (edge_names k) (edge_name k ∷ []) in
    omega (arith, again, len)

pub names_counted : (f : Function) → length (edge_function f).names ≡ length f.names + edge_count f
names_counted f = by_kind (λ g to n. length g.names ≡ length f.names + n) f
    (λ e. length-append f.names (edge_names (length (edges_of (phi_flags f) f))) ∙ ap (λ (n : ℕ). length f.names + n) (names_length (length (edges_of (phi_flags f) f))))
    (λ e. omega arith)

-- ---- markers, slots, the promise

pub markers_moved : (f : Function) (name : ℕ) → has_markers (edge_function f) name ≡ has_markers f name
markers_moved f name = by_kind (λ g to n. has_markers g name ≡ has_markers f name) f (λ e. markers_split f name) (λ e. refl)

pub promise_kept : (f : Function) → promise_of (edge_function f) ≡ promise_of f
promise_kept f = by_kind (λ g to n. promise_of g ≡ promise_of f) f (λ e. same_promise f) (λ e. refl)

pub ramp_kept : (f : Function) → Keeps f → (a : ℕ) → has_name (facts_of (edge_function f)).ramp_slots a ≡ has_name (facts_of f).ramp_slots a
ramp_kept f keeps a = by_kind (λ g to n. has_name (facts_of g).ramp_slots a ≡ has_name (facts_of f).ramp_slots a) f
    (λ e. let r = keeps e in same_ramp_slots f r.labels r.once r.phis a)
    (λ e. refl)

-- ---- places

pub first_place : (f : Function) → placed_block f 0 ≡ 0
first_place f = by_kind (λ g to n. to 0 ≡ 0) f (λ e. refl) (λ e. refl)

abbrev placing : (ℕ → ℕ) → Point → Point
placing to p = record { block = to p.block; at = p.at }

pub placed_apart : (f : Function) (p q : Point) → placed f p ≡ placed f q → p ≡ q
placed_apart f = by_kind (λ g to n. (p q : Point) → placing to p ≡ placing to q → p ≡ q) f
    (λ e p q s. moved_apart f p q s)
    (λ e p q s. s)

pub suspend_kept : (f : Function) (p : Point) → suspend_of (edge_function f) (placed f p) ≡ option_map (placed f) (suspend_of f p)
suspend_kept f p = by_kind (λ g to n. suspend_of g (record { block = to p.block; at = p.at }) ≡ option_map (λ (q : Point). record { block = to q.block; at = q.at }) (suspend_of f p)) f
    (λ e. suspend_moved f p)
    (λ e. same (suspend_of f p))
  where
    same : (o : Option Point) → o ≡ option_map (λ (q : Point). record { block = q.block; at = q.at }) o
    same None = refl
    same (Some q) = refl

pub final_kept : (f : Function) (p : Point) → is_final (edge_function f) (placed f p) ≡ is_final f p
final_kept f p = by_kind (λ g to n. is_final g (record { block = to p.block; at = p.at }) ≡ is_final f p) f
    (λ e. ap is_final_call (instr_moved f p))
    (λ e. refl)

any_final : (f : Function) (ps : List Point) → list_any (is_final (with_edge_blocks f)) (map (moved f) ps) ≡ list_any (is_final f) ps
any_final f [] = refl
any_final f (p ∷ ps) =
    let first = ap is_final_call (instr_moved f p) in
    let rest = any_final f ps in
    λ i. first i || rest i

pub has_final_kept : (f : Function) → has_final (edge_function f) ≡ has_final f
has_final_kept f = by_kind (λ g to n. has_final g ≡ has_final f) f
    (λ e. ap (list_any (is_final (with_edge_blocks f))) (points_moved (is_call_of Intrinsic.CoroSuspend) f) ∙ any_final f (points_where (is_call_of Intrinsic.CoroSuspend) f))
    (λ e. refl)
