-- What contracts see of a table and of its seats.
use Rattle.std.specs.Prelude.{ℕ, ℤ, ◌+◌, ◌*◌, ◌≡◌, ◌<◌, List, [], Option, Some, None, slice_set}
use Rattle.atomic_table.specs.Seated.{TableId}
use Rattle.nest_tree.specs.declared.program.Program.{Program}
use Rattle.nest_tree.specs.Tree.{Tree, done}
use Rattle.nest_tree.specs.View.{tree_of}
use Rattle.owner_partition.specs.Cuts.{plain_cut}
use Rattle.sync_plan.specs.declared.plan.Conditions.TheVariants.{Values}
use Rattle.sync_plan.specs.declared.plan.Plan.{Plan}
use Rattle.sync_plan.specs.declared.plan.Version.TheVariants.{One}
use Rattle.spmd_model.specs.declared.style.Style.{Style}
use Rattle.spmd_model.specs.declared.style.Style.TheVariants.{Arrive}
use Rattle.spmd_model.specs.Acts.{Act}
use Rattle.spmd_model.specs.Protocols.{Protocol, act_at, arrivals_at}
use Rattle.spmd_model.specs.PlanProtocols.{protocol_by}
use Rattle.shared_words.specs.declared.roles.Role.{Role}
use Rattle.shared_words.specs.declared.roles.Role.TheVariants.{Main, Cell, Spent, Over}
use Rattle.shared_words.specs.declared.roles.Stage.{Stage}
use Rattle.shared_words.specs.declared.view.View.{View}
use Rattle.shared_words.specs.declared.view.View.TheVariants.{Seated, Away}
use Rattle.shared_words.specs.Places.{behind, behind_row, settled_at}
use Rattle.shared_words.specs.Runs.{IsRunnable}
use Rattle.shared_words.specs.Words.{arrival_word, word_count}
use Rattle.spmd_model.specs.Laws.{Laws}

-- for which program, plan and style a table is made
abbrev pub Subject : Type 0
Subject = Program × (Plan × Style)

-- which table it is, for which it was made, and places that all its processors have come to, by processor
pub record Home : Type 0 where
  pub table : TableId
  pub given : Option Subject
  pub known : List ℕ

-- no table is made for none
abbrev no_plan : Plan
no_plan = record {
  version = One;
  conditions = Values;
  workers = 0;
  cut = plain_cut [];
  anchors = [];
  kinds = [];
  certificates = [];
}

abbrev pub tree_given : Option Subject → Tree
tree_given (Some (program, (plan, style))) = tree_of program
tree_given None = record { items = done; params = []; variables = [] }

abbrev pub plan_given : Option Subject → Plan
plan_given (Some (program, (plan, style))) = plan
plan_given None = no_plan

abbrev pub style_given : Option Subject → Style
style_given (Some (program, (plan, style))) = style
style_given None = Arrive

abbrev pub protocol_given : Option Subject → Protocol
protocol_given g = protocol_by (style_given g) (tree_given g) (plan_given g)

abbrev pub protocol_at : Home → Protocol
protocol_at h = protocol_given h.given

-- it is the same table, of the same program, plan and style
abbrev pub IsSameTable : Home → Home → Type 0
IsSameTable h g = (h.table ≡ g.table) × (h.given ≡ g.given)

-- the same, where p is known to have come to its place n
abbrev pub at_place : ℕ → ℕ → Home → Home
at_place p n h = record { table = h.table; given = h.given; known = slice_set h.known p n }

-- a processor's seat: the processor, how many of its acts are done, how many polls since the last one found too little, and what the last of them found
pub record CellView : Type 0 where
  pub home : Home
  pub processor : ℕ
  pub position : ℕ
  pub misses : ℕ
  pub seen : ℕ

-- the main seat: how far each processor's seat has come
pub record MainView : Type 0 where
  pub home : Home
  pub stages : List Stage

-- the act that the seat's processor does next, where it has one
abbrev pub next_act : CellView → Option Act
next_act v = act_at (protocol_at v.home) v.processor v.position

-- behind the next act, and those behind it that no other processor sees
abbrev pub gone : CellView → CellView
gone v = record {
  home = v.home;
  processor = v.processor;
  position = behind (protocol_at v.home) v.processor v.position;
  misses = 0;
  seen = 0;
}

-- behind all awaits of a barrier that stand next
abbrev pub through : CellView → CellView
through v = record {
  home = v.home;
  processor = v.processor;
  position = behind_row (protocol_at v.home) v.processor v.position;
  misses = 0;
  seen = 0;
}

-- behind a poll that found this, which is too little
abbrev pub missed : ℕ → CellView → CellView
missed seen v = record {
  home = v.home;
  processor = v.processor;
  position = v.position;
  misses = v.misses + 1;
  seen = seen;
}

-- the same seats in another home
abbrev pub seat_in : Home → CellView → CellView
seat_in h v = record {
  home = h;
  processor = v.processor;
  position = v.position;
  misses = v.misses;
  seen = v.seen;
}

abbrev pub main_in : Home → MainView → MainView
main_in h v = record { home = h; stages = v.stages }

-- how often the seat's processor has arrived at barriers
abbrev pub arrivals_of : CellView → ℕ
arrivals_of v = arrivals_at (protocol_at v.home) v.processor v.position

-- what its next act loads, and what its next act stores or adds, in the sequential program
abbrev pub loaded_next : CellView → ℤ
loaded_next v = (protocol_at v.home).loaded_at v.processor v.position

abbrev pub stored_next : CellView → ℤ
stored_next v = (protocol_at v.home).stored_at v.processor v.position

-- ---- by the seats' own views; of a seat that is away nothing is said

abbrev pub given_in : View → Option Subject
given_in (Seated program plan style known role) = Some (program, (plan, style))
given_in Away = None

abbrev pub role_in : View → Role
role_in (Seated program plan style known role) = role
role_in Away = Spent

abbrev pub known_in : View → List ℕ
known_in (Seated program plan style known role) = known
known_in Away = []

abbrev pub protocol_in : View → Protocol
protocol_in v = protocol_given (given_in v)

abbrev pub home_of : TableId → View → Home
home_of id v = record { table = id; given = given_in v; known = known_in v }

abbrev pub processor_of : Role → ℕ
processor_of (Main stages) = 0
processor_of (Cell p n misses seen) = p
processor_of Spent = 0
processor_of Over = 0

abbrev pub position_of : Role → ℕ
position_of (Main stages) = 0
position_of (Cell p n misses seen) = n
position_of Spent = 0
position_of Over = 0

abbrev pub misses_of : Role → ℕ
misses_of (Main stages) = 0
misses_of (Cell p n misses seen) = misses
misses_of Spent = 0
misses_of Over = 0

abbrev pub seen_of : Role → ℕ
seen_of (Main stages) = 0
seen_of (Cell p n misses seen) = seen
seen_of Spent = 0
seen_of Over = 0

abbrev pub stages_of : Role → List Stage
stages_of (Main stages) = stages
stages_of (Cell p n misses seen) = []
stages_of Spent = []
stages_of Over = []

abbrev pub cell_view : TableId → View → CellView
cell_view id v = record {
  home = home_of id v;
  processor = processor_of (role_in v);
  position = position_of (role_in v);
  misses = misses_of (role_in v);
  seen = seen_of (role_in v);
}

abbrev pub main_view : TableId → View → MainView
main_view id v = record { home = home_of id v; stages = stages_of (role_in v) }

-- a seat's view is that of this processor, and so many arrivals there are once all have arrived as often; its next act is one that another processor may see
pub record IsSeatOf (v : View) (p all : ℕ) : Type 0 where
  pub role : role_in v ≡ Cell p (position_of (role_in v)) (misses_of (role_in v))
      (seen_of (role_in v))
  pub worker : p < (protocol_in v).workers
  pub arrived : all ≡ (protocol_in v).workers
      * arrivals_at (protocol_in v) p (position_of (role_in v))
  pub settled : settled_at (protocol_in v) p (position_of (role_in v)) ≡ position_of (role_in v)

-- a table has the words of a program under a plan that can run it in a style, with so many cells, and its arrivals at this word
pub record IsTableOf (subject : Subject) (table : TableId) (count arrivals : ℕ) : Type 0 where
  pub runnable : IsRunnable (tree_given (Some subject)) (plan_given (Some subject))
  pub words : table.words ≡ word_count (protocol_given (Some subject))
  pub slots : table.slots ≡ 0
  pub cells : count ≡ (protocol_given (Some subject)).cells
  pub arrived : arrivals ≡ arrival_word (protocol_given (Some subject))
  pub laws : Laws (protocol_given (Some subject))
