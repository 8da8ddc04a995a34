mod Commands
