-- The answer to a line of the script, over what is in force. All of it is this project's own.
use Rattle.std.specs.Prelude.{ℕ, ◌+◌, nat_le, nat_lt, ◌&&◌, if◌then◌else◌, List, [], ◌∷◌, ◌++◌, length, Option, None}
use Rattle.std.specs.Prelude.{Some, Result, Ok, Err, codes, decimal}
use Rattle.plane_view.specs.Plane.{Plane, crop}
use Rattle.plane_view.specs.declared.Rect.{Rect}
use Rattle.region_session.specs.Sessions.{Opened as Session, samples_kept}
use Rattle.dev_settings.specs.Commands.{command_of}
use Rattle.dev_settings.specs.Settings.{changed}
use Rattle.dev_settings.specs.declared.format.Format.{Format}
use Rattle.dev_settings.specs.declared.command.Command.{Command}
use Rattle.dev_settings.specs.declared.command.Command.TheVariants.{Region, Set, Stat}
use Rattle.dev_settings.specs.declared.command.LineFault.{LineFault}
use Rattle.dev_settings.specs.declared.command.LineFault.TheVariants as lines
use Rattle.dev_settings.specs.declared.settings.Change.{Change}
use Rattle.dev_settings.specs.declared.settings.Settings.{Settings}
use Rattle.dev_settings.specs.Lines.{line_text_of}
use Rattle.dev_stages.specs.Changes.{number_of}
use Rattle.dev_stages.specs.Plans.{planned}
use Rattle.dev_stages.specs.declared.fault.PlanFault.{PlanFault}
use Rattle.dev_stages.specs.declared.fault.PlanFault.TheVariants as plans
use Rattle.dev_stages.specs.declared.stage.DevStage.{DevStage}
use Rattle.image_out.specs.Image.{image_of, reply_head_of}
use Rattle.developer.specs.Answers.{Answer}
use Rattle.developer.specs.Develop.{develop}
use Rattle.developer.specs.Sessions.{InForce, after_bands, bands_of, restaged}

-- the reply to a change that was made
abbrev pub done : List ℕ
done = codes "ok\n"

-- the reply to a region that isn't a part of the developed plane
abbrev pub no_region : List ℕ
no_region = codes "no region\n"

-- the reply to a line with more than 4,096 bytes
abbrev pub no_line : List ℕ
no_line = codes "no line\n"

-- the reply to a line that is no command
abbrev pub no_command : LineFault → List ℕ
no_command lines.Word = codes "no word\n"
no_command lines.Key = codes "no key\n"
no_command lines.Value = codes "no value\n"
no_command lines.Region = no_region

-- the reply to a change after which the frame has no stages; no definition answers "out of memory"
abbrev pub no_stages : PlanFault → List ℕ
no_stages plans.Matrix = codes "no matrix\n"
no_stages plans.Levels = codes "no levels\n"
no_stages plans.Memory = codes "no levels\n"

-- the reply to `stat`: how many cells were fetched and run since the frame was opened, how many samples are kept, and
-- the budget in samples
abbrev pub stat_reply : Session DevStage → List ℕ
stat_reply s =
    codes "stat " ++ decimal s.fetched ++ codes " " ++ decimal s.ran ++ codes " " ++ decimal (samples_kept s)
    ++ codes " " ++ decimal s.budget ++ codes "\n"

-- the crop of a plane to a rectangle, as an image
abbrev pub image : Plane → Rect → Format → List ℕ
image P rect format = image_of format (crop P rect).cols (crop P rect).rows (crop P rect).samples

-- an image after the line that tells its length
abbrev pub image_reply : List ℕ → List ℕ
image_reply bytes = reply_head_of (length bytes) ++ bytes

-- the rectangle of w columns from x and h rows from y
abbrev pub region_rect : (x y w h : ℕ) → Rect
region_rect x y w h = record { top = y; left = x; bottom = y + h; right = x + w }

-- that rectangle, where it has a pixel and lies in the plane
abbrev pub part_of : Plane → (x y w h : ℕ) → Option Rect
part_of P x y w h =
    if nat_lt 0 w && nat_lt 0 h && nat_le (x + w) P.cols && nat_le (y + h) P.rows
    then Some (region_rect x y w h) else None

-- the reply to a region that lies in the plane, or not
unfoldable pub region_reply : Plane → Format → Option Rect → List ℕ
region_reply P format (Some rect) = image_reply (image P rect format)
region_reply P format None = no_region

-- the plane that the frame is developed to
abbrev pub developed : InForce → Plane
developed now = develop now.session.plane now.frame now.settings

-- the part that a region asks for
abbrev pub part_in : InForce → (x y w h : ℕ) → Option Rect
part_in now x y w h = part_of (developed now) x y w h

-- these bytes, and nothing changes
abbrev pub replied : InForce → List ℕ → Answer InForce
replied now bytes = record { bytes = bytes; state = now }

-- the bands of a region, one for each row of cells that it meets; none where it isn't a part of the plane
abbrev pub bands_in : (side : ℕ) → Option Rect → List Rect
bands_in side (Some rect) = bands_of side rect
bands_in side None = []

-- the answer to a region: its bands are made, one after the other
unfoldable pub region_answer : InForce → Format → Option Rect → Answer InForce
region_answer now format part = record {
  bytes = region_reply (developed now) format part;
  state = record now { session = after_bands now.session (bands_in now.session.side part) };
}

-- the answer to a change, by the settings after it and by the stages of the frame under these: it is made where there
-- are such stages
abbrev pub set_by : InForce → ℕ → Settings → Result (List DevStage) PlanFault → Answer InForce
set_by now k after (Ok stages) =
    record { bytes = done; state = record now { settings = after; session = restaged now.session k stages } }
set_by now k after (Err fault) = replied now (no_stages fault)

-- the answer to a change
unfoldable pub set_answer : InForce → Change → Answer InForce
set_answer now change =
    set_by now (number_of now.frame change) (changed change now.settings)
    (planned now.frame (changed change now.settings))

-- the answer to a command
unfoldable pub command_answer : InForce → Result Command LineFault → Answer InForce
command_answer now (Ok (Region x y w h format)) = region_answer now format (part_in now x y w h)
command_answer now (Ok (Set change)) = set_answer now change
command_answer now (Ok Stat) = replied now (stat_reply now.session)
command_answer now (Err fault) = replied now (no_command fault)

-- the answer to a line, by its text
unfoldable pub line_answer : InForce → Option (List ℕ) → Answer InForce
line_answer now (Some text) = command_answer now (command_of text)
line_answer now None = replied now no_line

-- the answer to a line of the script, and what is in force after it
unfoldable pub answer_of : InForce → List ℕ → Answer InForce
answer_of now line = line_answer now (line_text_of line)

-- the bands of the region that a command asks for; none where it asks for no region
abbrev pub command_bands : InForce → Result Command LineFault → List Rect
command_bands now (Ok (Region x y w h format)) = bands_in now.session.side (part_in now x y w h)
command_bands now _ = []

-- the bands of the region that a line's text asks for; none of a line that is too long
abbrev pub line_bands : InForce → Option (List ℕ) → List Rect
line_bands now (Some text) = command_bands now (command_of text)
line_bands now None = []

-- the bands of the region that a line of the script asks for
unfoldable pub bands_for : InForce → List ℕ → List Rect
bands_for now line = line_bands now (line_text_of line)
