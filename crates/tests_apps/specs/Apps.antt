-- Apps whose shutdowns have the bits 1 to 3.
use Rattle.std.specs.List.{All}
use Rattle.vs_script.specs.{App.app_view, declared.app.App.App}
use Rattle.vs_apps_parts.specs.Scripts.{IsRight}

abbrev pub IsRightApp : App → Type 0
IsRightApp app = All IsRight (app_view app)
