-- The lines that the program writes of places, events and outcomes.
use Rattle.std.specs.Prelude.{ℕ, List, [], codes, decimal, slice_get, ℤ, pos, negsuc, nat_lt, ◌-◌, ◌*◌, Some, None, Option, option_map, ◌∷◌, ◌++◌, if◌then◌else◌, ◌==◌}
use Rattle.std.specs.Fmt.{signed_decimal}
use Rattle.run_agreement.specs.Machines.{Seen, SeenEvent}
use Rattle.ir_base.specs.Words.{cause_word, rule_word}
use Rattle.ir_base.specs.declared.name.Name.{Name}
use Rattle.ir_base.specs.declared.outcome.Event.{Event}
use Rattle.ir_base.specs.declared.outcome.Item.{Item}
use Rattle.ir_base.specs.declared.outcome.Outcome.{Outcome}
use Rattle.ir_base.specs.declared.outcome.Place.{Place}
use Rattle.ir_base.specs.declared.outcome.Word.{Word}
use Rattle.ir_base.specs.declared.rule.Rule.{Rule}
use Rattle.text_names.specs.Spelling.{spelling}
use Rattle.run_ints.specs.Numbers.{signed_of}
use Rattle.ir_model.specs.declared.module.Block.{Block}
use Rattle.ir_model.specs.declared.module.Declaration.{Declaration}
use Rattle.ir_model.specs.declared.module.Function.{Function}
use Rattle.ir_model.specs.declared.module.Module.{Module}

-- ---- names

abbrev pub name_text : Option Name → List ℕ
name_text None = []
name_text (Some n) = spelling n

-- an item: `%T` of a type, `@x` of all others
abbrev pub item_text : Module → Item → List ℕ
item_text m (Item.Type k) = codes "%" ++ name_text (option_map (λ t. t.name) (slice_get m.types k))
item_text m (Item.Global k) = codes "@" ++ name_text (option_map (λ g. g.name) (slice_get m.globals k))
item_text m (Item.Declaration k) = codes "@" ++ name_text (option_map (λ d. d.name) (slice_get m.declarations k))
item_text m (Item.Function k) = codes "@" ++ name_text (option_map (λ f. f.name) (slice_get m.functions k))

-- ---- places: `%T`, `@x`, `@f`, `@f %block` or `@f %block N`

abbrev pub function_of : Module → Item → Option Function
function_of m (Item.Function k) = slice_get m.functions k
function_of m _ = None

abbrev pub label_text : Function → Option Block → List ℕ
label_text f None = []
label_text f (Some b) = name_text (slice_get f.names b.label)

abbrev pub in_function : Option Function → ℕ → List ℕ
in_function None block = []
in_function (Some f) block = label_text f (slice_get f.blocks block)

abbrev pub block_text : Option Function → Option ℕ → List ℕ
block_text f None = []
block_text f (Some block) = codes " %" ++ in_function f block

abbrev pub instr_text : Option ℕ → List ℕ
instr_text None = []
instr_text (Some n) = codes " " ++ decimal n

-- the place of an item, of a block of a function, or of an instruction there
abbrev pub place_text : Module → Place → List ℕ
place_text m p = item_text m p.item ++ block_text (function_of m p.item) p.block ++ instr_text p.instr

-- ---- values

-- the number with its sign of one of so many words
abbrev pub signed_among : ℕ → ℕ → ℤ
signed_among count n = if nat_lt (2 * n) count then pos n else negsuc (count - 1 - n)

-- an i1 as 0 or 1, others with their sign
abbrev pub word_text : Word → List ℕ
word_text w = if w.width == 1 then decimal w.bits else signed_decimal (signed_of w.width w.bits)

abbrev pub later_words : List Word → List ℕ
later_words [] = []
later_words (w ∷ ws) = codes ", " ++ word_text w ++ later_words ws

abbrev pub words_text : List Word → List ℕ
words_text [] = []
words_text (w ∷ ws) = word_text w ++ later_words ws

-- ---- runs

abbrev pub declared_text : Option Declaration → List ℕ
declared_text None = spelling (Name.Number 0)
declared_text (Some d) = spelling d.name

-- an observed call: `name(a, b)`
abbrev pub event_text : Module → Event → List ℕ
event_text m e = declared_text (slice_get m.declarations e.func) ++ codes "(" ++ words_text e.args ++ codes ")\n"

abbrev pub events_text : Module → List Event → List ℕ
events_text m [] = []
events_text m (e ∷ es) = event_text m e ++ events_text m es

abbrev pub returned_text : Option Word → List ℕ
returned_text None = codes "returned\n"
returned_text (Some w) = codes "returned " ++ word_text w ++ codes "\n"

-- `returned V`, `returned`, `running` or `undefined CAUSE at PLACE`
abbrev pub outcome_text : Module → Outcome → List ℕ
outcome_text m (Outcome.Returned v) = returned_text v
outcome_text m Outcome.Running = codes "running\n"
outcome_text m (Outcome.Undefined cause place) = codes "undefined " ++ cause_word cause ++ codes " at " ++ place_text m place ++ codes "\n"

-- the events in order, and the outcome
abbrev pub run_text : Module → List Event → Outcome → List ℕ
run_text m events outcome = events_text m events ++ outcome_text m outcome

-- ---- the same of what is seen

abbrev pub seen_event_text : SeenEvent → List ℕ
seen_event_text e = spelling e.name ++ codes "(" ++ words_text e.args ++ codes ")\n"

abbrev pub seen_events_text : List SeenEvent → List ℕ
seen_events_text [] = []
seen_events_text (e ∷ es) = seen_event_text e ++ seen_events_text es

-- the text of what is seen of a run of a module
abbrev pub seen_text : Module → Seen → List ℕ
seen_text m seen = seen_events_text seen.events ++ outcome_text m seen.outcome

-- ---- refusals

abbrev pub refused_text : Module → Rule → Place → List ℕ
refused_text m rule place = codes "refused " ++ rule_word rule ++ codes " at " ++ place_text m place ++ codes "\n"

abbrev pub syntax_text : ℕ → List ℕ
syntax_text items = codes "syntax after " ++ decimal items ++ codes " items\n"

-- the entry as it was given
abbrev pub not_callable_text : List ℕ → List ℕ
not_callable_text entry = codes "entry " ++ entry ++ codes " isn't callable\n"

abbrev pub bad_list_text : List ℕ → List ℕ
bad_list_text word = codes "bad list " ++ word ++ codes "\n"
