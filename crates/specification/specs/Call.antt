-- Every call of the plain form by its name: `call player m c s` are the shadows after it and its answer for the player, `call desk m c s` for the desk
-- (S-8). Assumes nothing.
use Rattle.map.specs.declared.Form as code
use Rattle.map.specs.declared.Form.TheVariants.{Player, Desk}
use Rattle.types.specs.Call.{Call, clear, begin, free, remove, written, ask, valid, initialised, next, audit, place, Answer}
use Rattle.specification.specs.Map.{Map, Shadows}
use Rattle.specification.specs.Form.{Form}
use Rattle.specification.specs.Heap.{player}
use Rattle.specification.specs.Desk.{desk}
use Rattle.specification.specs.Calls as calls
use Rattle.specification.specs.Place as places
use Rattle.specification.specs.Audit as audits

unfoldable pub call : Form → Map → Call → Shadows → Shadows × Answer
call F m clear = calls.clear F m
call F m (begin how base length) = calls.begin F m how base length
call F m (free base) = calls.free F m base
call F m (remove base) = calls.remove F m base
call F m (written address n) = calls.written F m address n
call F m (ask address) = calls.ask F m address
call F m (valid write address n from) = calls.valid F m write address n from
call F m (initialised address n) = calls.initialised F m address n
call F m (next address) = calls.next F m address
call F m audit = audits.audit F m
call F m (place length budget) = places.place F m length budget

-- what the code's two forms stand for
abbrev pub form_of : code.Form → Form
form_of Player = player
form_of Desk = desk
