-- Splitting puts blocks on the edges that leave windows, and then makes the parts.
use Rattle.std.proofs.Common.{◌≡◌, ℕ, ◌+◌, Bool, true, false, List, [], ◌∷◌, ◌++◌, refl, sym, ap, ◌∙◌}
use Rattle.std.specs.Prelude.{map, if◌then◌else◌}
use Rattle.std.specs.List.{list_any}
use Rattle.pass_proofs.specs.ir_base.declared.name.Name.{Name}
use Rattle.pass_proofs.specs.pass_split.Given.{called_from, called_in, called_names, has_given_call, is_given_by}
use Rattle.pass_proofs.specs.pass_split.Parts.{first_layout, layouts_after, marked_parts, other_layouts, plain_of, plain_shape, split_function, split_functions, split_module}
use Rattle.pass_proofs.specs.pass_split.declared.given.CalledName.{CalledName}
use Rattle.pass_proofs.specs.frame_layout.declared.layout.Layout.{Layout}
use Rattle.pass_proofs.specs.frame_layout.declared.layout.Layouts.{Layouts}
use Rattle.pass_proofs.specs.ir_model.Names.{noalloc_of, same_name}
use Rattle.pass_proofs.specs.ir_model.declared.module.Block.{Block}
use Rattle.pass_proofs.specs.ir_model.declared.module.Function.{Function}
use Rattle.pass_proofs.specs.ir_model.declared.module.Module.{Module}
use Rattle.pass_proofs.specs.pass_exits.ExitBlocks.{blocks_by, exit_blocks, with_exit_blocks}
use Rattle.pass_proofs.specs.pass_exits.Exits.{block_exits}
use Rattle.pass_proofs.specs.pass_exits.declared.exit.Exit.{Exit}
use Rattle.pass_proofs.specs.exits.states.Exits.{exit_function, exits_split}
use Rattle.pass_split_proof.specs.first_exits.Parted.{parted_function, parted_functions, parted_module}

-- ---- what is called stays

-- blocks on edges call nothing
none_called : (n : ℕ) (es : List Exit) (bs : List Block) → called_from (exit_blocks n es ++ bs) ≡ called_from bs
none_called n [] bs = refl
none_called n (e ∷ es) bs = none_called (n + 1) es bs

blocks_call : (f : Function) (at n : ℕ) (bs : List Block) → called_from (blocks_by f at n bs) ≡ called_from bs
blocks_call f at n [] = refl
blocks_call f at n (b ∷ bs) =
    let es : List Exit = block_exits f at b in
    ap (λ (cs : List CalledName). called_in b.instrs ++ cs) (none_called n es _ ∙ blocks_call f (at + 1) _ bs)

function_calls : (f : Function) → called_from (exit_function f).blocks ≡ called_from f.blocks
function_calls f = on f.coroutine
  where
    on : (b : Bool) → called_from (if b then with_exit_blocks f else f).blocks ≡ called_from f.blocks
    on true = blocks_call f 0 _ f.blocks
    on false = refl

functions_call : (fs : List Function) → called_names (map exit_function fs) ≡ called_names fs
functions_call [] = refl
functions_call (f ∷ fs) = λ i. function_calls f i ++ functions_call fs i

pub same_own_name : (f : Function) → (exit_function f).name ≡ f.name
same_own_name f = on f.coroutine
  where
    on : (b : Bool) → (if b then with_exit_blocks f else f).name ≡ f.name
    on true = refl
    on false = refl

-- a coroutine is given frames as before
pub given_as_before : (m : Module) (f : Function) → has_given_call (exits_split m) (exit_function f) ≡ has_given_call m f
given_as_before m f =
    ap (λ (cs : List CalledName). is_given_by cs (exit_function f)) (functions_call m.functions)
    ∙ ap (λ (x : Name). list_any (λ (c : CalledName). same_name (noalloc_of x) c.name) (called_names m.functions)) (same_own_name f)

-- ---- the parts

one_parted : (l : Layout) (given : Bool) (f : Function) → split_function l given f ≡ parted_function l given (exit_function f)
one_parted l given f = on f.coroutine refl
  where
    on : (b : Bool) → f.coroutine ≡ b → (if b then marked_parts l given (with_exit_blocks f) else plain_of (plain_shape f) f ∷ []) ≡ parted_function l given (if b then with_exit_blocks f else f)
    on true e = ap (λ (c : Bool). if c then marked_parts l given (with_exit_blocks f) else plain_of (plain_shape (with_exit_blocks f)) (with_exit_blocks f) ∷ []) (sym e)
    on false e = ap (λ (c : Bool). if c then marked_parts l given f else plain_of (plain_shape f) f ∷ []) (sym e)

after_same : (f : Function) (ls : List Layout) → layouts_after (exit_function f) ls ≡ layouts_after f ls
after_same f ls = ap (λ (c : Bool). if c then other_layouts ls else ls) (on f.coroutine)
  where
    on : (b : Bool) → (if b then with_exit_blocks f else f).coroutine ≡ f.coroutine
    on true = refl
    on false = refl

all_parted : (ls : List Layout) (m : Module) (fs : List Function) → split_functions ls m fs ≡ parted_functions ls (exits_split m) (map exit_function fs)
all_parted ls m [] = refl
all_parted ls m (f ∷ fs) =
    let first =
    one_parted (first_layout ls) (has_given_call m f) f ∙ ap (λ (b : Bool). parted_function (first_layout ls) b (exit_function f)) (sym (given_as_before m f)) in
    let rest = all_parted (layouts_after f ls) m fs ∙ ap (λ (others : List Layout). parted_functions others (exits_split m) (map exit_function fs)) (sym (after_same f ls)) in
    λ i. first i ++ rest i

pub split_parted : (ls : Layouts) (m : Module) → split_module ls m ≡ parted_module ls (exits_split m)
split_parted ls m = ap (λ (fs : List Function). record { types = m.types; globals = m.globals; declarations = m.declarations; functions = fs }) (all_parted ls.coroutines m m.functions)
