-- How far frames are looked at before another refusal is told.
use Rattle.std.specs.Prelude.{ℕ, Bool, true, false, None, ◌+◌, if◌then◌else◌}
use Rattle.ir_base.specs.declared.outcome.Item.{Item}
use Rattle.ir_base.specs.declared.rule.Rule.{Rule}
use Rattle.rule_modules.specs.declared.order.Refusal.{Refusal}

-- the rules of the whole module, which are looked at before any layout
abbrev pub is_of_module : Rule → Bool
is_of_module Rule.L1 = true
is_of_module Rule.N1 = true
is_of_module Rule.N2 = true
is_of_module Rule.N3 = true
is_of_module Rule.Y2 = true
is_of_module _ = false

-- the rule of functions that is looked at behind K12
abbrev pub is_behind : Rule → Bool
is_behind Rule.K13 = true
is_behind _ = false

abbrev pub count_with : Bool → ℕ → ℕ
count_with true func = func + 1
count_with false func = func

abbrev pub count_at : Rule → Item → ℕ
count_at rule (Item.Function func) = count_with (is_behind rule) func
count_at rule _ = 0

-- so many functions, the first ones, are looked at for K12 before a refusal is told: none before one by a rule of the whole
-- module or at an item that is no function, else those before the function at fault, and that one where its rule comes behind K12
abbrev pub looked_at : Refusal → ℕ
looked_at r = if is_of_module r.rule then 0 else count_at r.rule r.place.item

-- K12 at a function
abbrev pub too_large : ℕ → Refusal
too_large func = record { rule = Rule.K12; place = record { item = Item.Function func; block = None; instr = None } }
