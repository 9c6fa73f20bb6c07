use Rattle.laws_tables.{proofs.{Both.{device_has_room, driver_accepts, run_keeps, start_sound}, Tables.{driver_open, table_open}, Voices.device_takes}, specs.Both.{run, start}}
use Rattle.vs_page.specs.Log.{Device, Driver}
use Rattle.laws_tables.proofs.laws.law_of_both.Goals as goal

pub returns-clause-sound : goal.returns-clause-sound
returns-clause-sound c = λ first guest host xs may. run_keeps first xs (start first guest host) (start_sound first guest host) may

pub returns-clause-driver_table : goal.returns-clause-driver_table
returns-clause-driver_table c = λ first guest host xs f may.
    let w = (run xs (start first guest host)).driver in
    driver_open first w.part w.log f ((run_keeps first xs (start first guest host) (start_sound first guest host) may).matches Driver).flows

pub returns-clause-device_table : goal.returns-clause-device_table
returns-clause-device_table c = λ first guest host xs f may.
    let w = (run xs (start first guest host)).device in
    table_open Device first w.part w.log f ((run_keeps first xs (start first guest host)
    (start_sound first guest host) may).matches Device).flows

pub returns-clause-driver_accepts : goal.returns-clause-driver_accepts
returns-clause-driver_accepts c = λ first p e b s next host has. driver_accepts first p e b s next has host

pub returns-clause-device_has_room : goal.returns-clause-device_has_room
returns-clause-device_has_room c = device_has_room

pub returns-clause-device_accepts : goal.returns-clause-device_accepts
returns-clause-device_accepts c = device_takes
