-- `matuviso_session_open` meets its promise where it opens: nothing is told, and the lists are the session's.
use lib.ListN.{length}
use mathlib.Core.Bool.{true}
use mathlib.Core.Path.{◌≡◌, refl, sym, ◌∙◌}
use mir.Facts.{to_z-of_z}
use Rattle.lab_session.specs.Told.{tell_session}
use Rattle.lab_session.proofs.matuviso_session_open.Goals as goal

pub returns-in-Ok : goal.returns-in-Ok
returns-in-Ok c =
    let s = c.args in
    let long : tell_session (length s.header.now) (length s.place.now) (length s.found.now) (length s.settings.now) (length s.told.now) ≡ true = sym c.tell_session.ensures ∙ c.if-not-tell_session.false in
    let opens_it = rw (c.header_of.ensures, to_z-of_z c.ranges.channel, to_z-of_z c.ranges.stream) at c.in-Ok.ensures in
    record {
      tells = record { answers = rw (long, sym opens_it.answers) refl; holds = rw (long, sym opens_it.answers) refl };
      writes = record {
        holds_place = rw (long, sym opens_it.answers) c.put_session.ensures.holds_place;
        holds_found = rw (long, sym opens_it.answers) c.put_session.ensures.holds_found;
        holds_settings = rw (long, sym opens_it.answers) c.put_session.ensures.holds_settings;
      };
      holds_cells = rw long opens_it.cells_are;
      holds_memory = rw long opens_it.memory_is;
    }
