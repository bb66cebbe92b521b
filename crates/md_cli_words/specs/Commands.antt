-- The commands: their names, and the form of the arguments of each.
--
--   audit SETTING ANSWER
--   rows SETTING
--   check SETTING ANSWER [--units NUMBER]
--   solve SETTING [--width W]
--   replay SETTING PIVOTS [--width W]
--   realise SETTING ODDS
--   fair SETTING [--width W]
--   find SETTING [--from BASIS]
--   findfair SETTING
--   require SETTING CONDITIONS
--   asym SETTING [--width W]
--   units SETTING NUMBER [--width W]
--   threshold SETTING NUMBER
--   award SETTING NUMBER PROFILE DRAW
--   determ SETTING [--width W]
--   determcheck SETTING ANSWER
--   run SETTING ANSWER PROFILE DRAW1 DRAW2 [--units NUMBER]
--   report SETTING ANSWER [--units NUMBER]
--   iron SETTING
--   ironunits SETTING NUMBER
--   make NUMBER
--   drill NUMBER
use Rattle.std.specs.Prelude.{List, [], ◌∷◌, Option, Some, None, codes, if◌then◌else◌}
use Rattle.std.specs.Str.{bytes_eq}
use Rattle.clap.specs.Words.{Text}
use Rattle.md_cli_words.specs.declared.command.Command.{Command}
use Rattle.md_cli_words.specs.declared.command.Command.TheVariants.{Audit, Rows, Check, Solve, Replay, Realise, Fair, Find, FindFair, Require, Asym, Units, Threshold, Award, Determ, DetermCheck, Run, Report, Iron, IronUnits, Make, Drill}
use Rattle.md_cli_words.specs.declared.form.Form.{Form}
use Rattle.md_cli_words.specs.declared.form.Form.TheVariants.{One, OneWidth, OneBasis, Two, TwoWidth, TwoUnits, NumberWidth, OneNumber, NumberDraw, Draws, Number}

-- The command of a name. A text is a list of bytes, and the name is compared byte by byte: a part of a name, or one in
-- other letters, is none.
abbrev pub command_named : Text → Option Command
command_named word =
    if bytes_eq word (codes "audit") then Some Audit
    else (if bytes_eq word (codes "rows") then Some Rows
    else (if bytes_eq word (codes "check") then Some Check
    else (if bytes_eq word (codes "solve") then Some Solve
    else (if bytes_eq word (codes "replay") then Some Replay
    else (if bytes_eq word (codes "realise") then Some Realise
    else (if bytes_eq word (codes "fair") then Some Fair
    else (if bytes_eq word (codes "find") then Some Find
    else (if bytes_eq word (codes "findfair") then Some FindFair
    else (if bytes_eq word (codes "require") then Some Require
    else (if bytes_eq word (codes "asym") then Some Asym
    else (if bytes_eq word (codes "units") then Some Units
    else (if bytes_eq word (codes "threshold") then Some Threshold
    else (if bytes_eq word (codes "award") then Some Award
    else (if bytes_eq word (codes "determ") then Some Determ
    else (if bytes_eq word (codes "determcheck") then Some DetermCheck
    else (if bytes_eq word (codes "run") then Some Run
    else (if bytes_eq word (codes "report") then Some Report
    else (if bytes_eq word (codes "iron") then Some Iron
    else (if bytes_eq word (codes "ironunits") then Some IronUnits
    else (if bytes_eq word (codes "make") then Some Make
    else (if bytes_eq word (codes "drill") then Some Drill
    else None)))))))))))))))))))))

-- the command that the first word names; none where there is no word, or it is no name
abbrev pub command_in : List Text → Option Command
command_in [] = None
command_in (word ∷ more) = command_named word

-- which arguments have to be there, and whether a width, a number of units or a basis may be named
abbrev pub form_of : Command → Form
form_of Rows = One
form_of Solve = OneWidth
form_of Audit = Two
form_of Check = TwoUnits
form_of Replay = TwoWidth
form_of Realise = Two
form_of Fair = OneWidth
form_of Find = OneBasis
form_of FindFair = One
form_of Require = Two
form_of Asym = OneWidth
form_of Units = NumberWidth
form_of Threshold = OneNumber
form_of Award = NumberDraw
form_of Determ = OneWidth
form_of DetermCheck = Two
form_of Run = Draws
form_of Report = TwoUnits
form_of Iron = One
form_of IronUnits = OneNumber
form_of Make = Number
form_of Drill = Number
