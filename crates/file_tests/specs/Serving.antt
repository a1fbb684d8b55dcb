-- A server, by some past.
use Rattle.file_server.specs.declared.server.FileServer.{FileServer}
use Rattle.file_server.specs.ServerStands.{HasCome}

abbrev pub IsServing : FileServer → Type 0
IsServing m = HasCome m
